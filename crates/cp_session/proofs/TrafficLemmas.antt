-- A piece that was read, and a response in two pieces.
use Rattle.std.proofs.Common.{◌≡◌, ℕ, ◌+◌, List, [], ◌++◌, length, take, drop, refl, ap, sym, ◌∙◌, subst, arith, length-append, Option, append_assoc}
use Rattle.std.specs.Io.KnownBytes.{Appends, Consumes}
use Rattle.std.proofs.KnownBytes.{Consumes-nil, Consumes-trans, Appends-trans}
use Rattle.std.proofs.lemmas.List.{append-nil, take-append-le}
use Rattle.std.proofs.Math.Seq.{drop-append_seam, take-append-add}
use Rattle.cp_outside.specs.Causes.{AppendsPart}
use Rattle.cp_session.specs.Traffic.{Grows}

pub grows_by : (old new piece : List ℕ) (before after : Option (List ℕ)) → new ≡ old ++ piece → Consumes before after piece → Grows old new before after
grows_by old new piece before after new_is consumed =
    let tail : drop (length old) new ≡ piece = ap (drop (length old)) new_is ∙ drop-append_seam old piece in
    record {
      kept = new_is ∙ ap (λ p. old ++ p) (sym tail);
      consumed = subst (λ (p : List ℕ). Consumes before after p) (sym tail) consumed;
    }

pub grows_none : (old new : List ℕ) (before after : Option (List ℕ)) → new ≡ old → Consumes before after [] → Grows old new before after
grows_none old new before after same consumed = grows_by old new [] before after (same ∙ sym (append-nil old)) consumed

pub grows_more : (old mid new : List ℕ) (a b c : Option (List ℕ)) → Grows old mid a b → Grows mid new b c → Grows old new a c
grows_more old mid new a b c first second =
    grows_by old new (drop (length old) mid ++ drop (length mid) new) a c
    (second.kept ∙ ap (λ m. m ++ drop (length mid) new) first.kept ∙ append_assoc old (drop (length old) mid) (drop (length mid) new))
    (Consumes-trans a b c _ _ first.consumed second.consumed)

pub grows_start : (b : List ℕ) (a : Option (List ℕ)) → Grows b b a a
grows_start b a = grows_none b b a a refl (Consumes-nil a)

pub ruleset hearing = (grows_start, grows_more)

pub all_sent : (a b c : Option (List ℕ)) (head body : List ℕ) → Appends a b head → Appends b c body → Appends a c (head ++ body)
all_sent a b c head body first second = Appends-trans a b c head body first second

pub part_sent : (a b c : Option (List ℕ)) (head body : List ℕ) → Appends a b head → AppendsPart b c body → AppendsPart a c (head ++ body)
part_sent a b c head body first second = (
  length head + second.0,
  omega (arith, length-append head body, second.1),
  subst (λ (p : List ℕ). Appends a c p) (sym (take-append-add head body second.0)) (Appends-trans a b c head (take second.0 body) first second.2),
)

pub head_part_sent : (a b : Option (List ℕ)) (head body : List ℕ) → AppendsPart a b head → AppendsPart a b (head ++ body)
head_part_sent a b head body first = (first.0, omega (arith, length-append head body, first.1), subst (λ (p : List ℕ). Appends a b p) (sym (take-append-le first.0 head body (omega (arith, first.1)))) first.2)

pub ruleset sending = (all_sent, part_sent, head_part_sent)
