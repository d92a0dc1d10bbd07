use Rattle.std.proofs.Common.{◌+◌, length, ap, ap₂, subst, ◌∙◌, ℕ, rules, ◌≡◌, ◌++◌, ◌∷◌, []}
use Rattle.std.specs.List.{All}
use Rattle.cp_outside.specs.Entries.{IsWithin, writes_in}
use Rattle.cp_outside.proofs.EntryLemmas.{writes_in-append}
use Rattle.cp_outside.proofs.appending.append.Goals as goal

pub returns-in-Ok-clause-writes : goal.returns-in-Ok-clause-writes
returns-in-Ok-clause-writes c =
    let size : c.len-start.result ≡ length c.args.bytes.now.items = c.len-start.ensures ∙ c.args.bytes.now.ok.0 in
    let bytes : c.extend_from_slice-else-is_err.new.self.items ≡ c.args.bytes.now.items ++ c.args.name.now ++ c.args.content.now = search rules in
    let entries : c.push.new.self.items ≡ c.args.entries.now.items ++ _ ∷ [] = c.in-Ok.ensures.items in
    ap₂ writes_in bytes entries
    ∙ writes_in-append c.args.bytes.now.items c.args.name.now c.args.content.now c.args.entries.now.items _
    (subst (λ (k : ℕ). All (IsWithin k) c.args.entries.now.items) c.args.bytes.now.ok.0 c.requires.within)
    size (ap (λ k. k + length c.args.name.now) size) (ap (λ k. k + length c.args.name.now + length c.args.content.now) size)
