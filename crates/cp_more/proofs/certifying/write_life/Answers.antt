use Rattle.std.proofs.Common.{ℕ, List, Some, ap, ◌∙◌, arith}
use Rattle.cp_commands.specs.View.{certify_words_view}
use Rattle.cp_endings.specs.Folders.{Files, files_of}
use Rattle.cp_more.specs.CertifyingCode.{made_view}
use Rattle.cp_more.proofs.Certified.{all_written, key_fails, paper_fails, seed_fails}
use Rattle.cp_more.proofs.certifying.write_life.Goals as goal

pub returns-in-Err-clause-ends : goal.returns-in-Err-clause-ends
returns-in-Err-clause-ends g c =
    let old : Files = files_of g.F.Folder c.args.files.now in
    let new : Files = files_of g.F.Folder c.write.new.self in
    key_fails (certify_words_view c.args.words.now) (made_view c.args.made.now) old new c.in-Err.ensures.others (omega (arith, c.in-Err.ensures.cause))

pub returns-in-Err-write-clause-ends : goal.returns-in-Err-write-clause-ends
returns-in-Err-write-clause-ends g c =
    let old : Files = files_of g.F.Folder c.args.files.now in
    let first : Files = files_of g.F.Folder c.write.new.self in
    let new : Files = files_of g.F.Folder c.write-2.new.self in
    paper_fails (certify_words_view c.args.words.now) (made_view c.args.made.now) old first
    (record { written = c.in-Ok.ensures.written; others = c.in-Ok.ensures.others; tells = c.in-Ok.ensures.tells }) new c.in-Err-write.ensures.others (omega (arith, c.in-Ok.ensures.cause, c.in-Err-write.ensures.cause))

pub returns-in-Err-write-2-clause-ends : goal.returns-in-Err-write-2-clause-ends
returns-in-Err-write-2-clause-ends g c =
    let old : Files = files_of g.F.Folder c.args.files.now in
    let first : Files = files_of g.F.Folder c.write.new.self in
    let second : Files = files_of g.F.Folder c.write-2.new.self in
    let new : Files = files_of g.F.Folder c.write-3.new.self in
    seed_fails (certify_words_view c.args.words.now) (made_view c.args.made.now) old first
    (record { written = c.in-Ok.ensures.written; others = c.in-Ok.ensures.others; tells = c.in-Ok.ensures.tells }) second
    (record { written = λ t. c.in-Ok-write.ensures.written t ∙ ap (λ (l : List ℕ). Some l) c.as_slice.ensures.value; others = c.in-Ok-write.ensures.others; tells = c.in-Ok-write.ensures.tells }) new
    c.in-Err-write-2.ensures.others (omega (arith, c.in-Ok.ensures.cause, c.in-Ok-write.ensures.cause, c.in-Err-write-2.ensures.cause))

pub returns-in-Ok-write-2-clause-ends : goal.returns-in-Ok-write-2-clause-ends
returns-in-Ok-write-2-clause-ends g c =
    let old : Files = files_of g.F.Folder c.args.files.now in
    let first : Files = files_of g.F.Folder c.write.new.self in
    let second : Files = files_of g.F.Folder c.write-2.new.self in
    let new : Files = files_of g.F.Folder c.write-3.new.self in
    all_written (certify_words_view c.args.words.now) (made_view c.args.made.now) old first
    (record { written = c.in-Ok.ensures.written; others = c.in-Ok.ensures.others; tells = c.in-Ok.ensures.tells }) second
    (record { written = λ t. c.in-Ok-write.ensures.written t ∙ ap (λ (l : List ℕ). Some l) c.as_slice.ensures.value; others = c.in-Ok-write.ensures.others; tells = c.in-Ok-write.ensures.tells }) new
    (record { written = c.in-Ok-write-2.ensures.written; others = c.in-Ok-write-2.ensures.others; tells = c.in-Ok-write-2.ensures.tells })
