use Rattle.std.proofs.Common.{List, ℕ, length, ap, ◌∙◌, ◌≡◌, ◌+◌, get_or, take, arith}
use Rattle.cp_bytes.specs.Hashes.{head_after}
use Rattle.cp_audit.proofs.HeadLemmas.{length-heads, head_at}
use Rattle.cp_audit.proofs.part.Part.head_behind.Goals as goal

pub bounds-heads-place : goal.bounds-heads-place
bounds-heads-place c =
    let long : length c.as_slice-heads.result.now ≡ length c.args.self.now.segment + 1 = ap length c.as_slice-heads.ensures.value ∙ ap length c.args.self.now.hashed ∙ length-heads c.args.self.now.frame.before.head c.args.self.now.segment in
    omega (arith, long, c.requires)

pub returns : goal.returns
returns c =
    let whole = c.as_slice-heads.ensures.value ∙ c.args.self.now.hashed in
    let at : (d : List ℕ) → get_or c.as_slice-heads.result.now c.args.place d ≡ head_after c.args.self.now.frame.before.head (take c.args.place c.args.self.now.segment) = λ d. ap (λ (l : List (List ℕ)). get_or l c.args.place d) whole ∙ head_at c.args.self.now.frame.before.head c.args.self.now.segment c.args.place d c.requires in
    at _
