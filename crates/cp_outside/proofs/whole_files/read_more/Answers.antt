use Rattle.std.proofs.Common.{◌≡◌, ◌+◌, ◌++◌, take, drop, length, arith, rules, ap, ◌∙◌, take-add, length-drop}
use Rattle.std.proofs.lemmas.List.{with_items_is, places, same_lists}
use Rattle.cp_outside.proofs.FileLemmas.{longer_front}
use Rattle.cp_outside.proofs.whole_files.read_more.Goals as goal

pub returns-in-Ok-clause-told : goal.returns-in-Ok-clause-told
returns-in-Ok-clause-told g c = λ told.
    let start = c.len-start.result in
    let old = c.args.bytes.now.items in
    let after = c.read_behind.new.bytes in
    let n = c.in-Ok.count in
    let at_is : start ≡ length old = c.len-start.ensures ∙ c.args.bytes.now.ok.0 in
    let grown : take start c.as_mut_slice.result.now ≡ old
    = same_lists _ _ (search (rules, places)) (λ k d lt. let here = c.resize.ensures.by_index.0 k d in grind (arith, places, c.as_mut_slice.ensures.value)) in
    let items : c.truncate-in-Ok.new.self.items ≡ take (start + n) after
    = c.truncate-in-Ok.ensures.items ∙ ap (take (start + n)) (with_items_is c.resize.new.self c.read_behind.new.bytes (search (rules, places))) in
    longer_front _ old _ (drop start after) start n at_is (c.requires.so_far told) (c.in-Ok.ensures.told told) (omega (arith, c.in-Ok.ensures.within, length-drop start after))
    (items ∙ take-add start n after ∙ ap (λ xs. xs ++ take n (drop start after)) (c.in-Ok.ensures.front ∙ grown))
