use Rattle.std.proofs.Common.{rules, get_or, [], ap, ◌∙◌}
use Rattle.std.proofs.lemmas.List.{take_rest}
use Rattle.std.proofs.lemmas.List.Sorted.{answers_always}
use Rattle.lms_tree.specs.PublicKey.{key_reads}
use Rattle.cp_families.specs.Rows.{row_of}
use Rattle.cp_families.proofs.Searching.{key_found, key_absent}
use Rattle.cp_families.proofs.lists.find_key.Goals as goal

-- the closure gives a row's family and client
pub returns-in-Ok-clause-found : goal.returns-in-Ok-clause-found
returns-in-Ok-clause-found c =
    let equal = c.in-Ok.ensures.position (λ row. ((row_of row).family, (row_of row).client)) (answers_always _ _ _ (λ f a r g called. search rules)) in
    let found = key_found c.args.rows.now c.requires c.args.family c.args.client c.in-Ok.at [] c.in-Ok.ensures.bound (equal []) in
    rw (take_rest (get_or c.args.rows.now c.in-Ok.at []) 8) found.0

pub returns-in-Ok-clause-reads : goal.returns-in-Ok-clause-reads
returns-in-Ok-clause-reads c =
    let equal = c.in-Ok.ensures.position (λ row. ((row_of row).family, (row_of row).client)) (answers_always _ _ _ (λ f a r g called. search rules)) in
    let found = key_found c.args.rows.now c.requires c.args.family c.args.client c.in-Ok.at [] c.in-Ok.ensures.bound (equal []) in
    ap key_reads (take_rest (get_or c.args.rows.now c.in-Ok.at []) 8) ∙ found.1

pub returns-in-Err-clause-found : goal.returns-in-Err-clause-found
returns-in-Err-clause-found c =
    let parted = c.in-Err.ensures.position (λ row. ((row_of row).family, (row_of row).client)) (answers_always _ _ _ (λ f a r g called. search rules)) in
    key_absent c.args.rows.now c.requires c.args.family c.args.client c.in-Err.field-0 c.in-Err.ensures.bound parted
