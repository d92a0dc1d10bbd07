use Rattle.std.proofs.Common.{◌≡◌, refl, inl, inr, ◌∙◌}
use Rattle.std.proofs.lemmas.Result.{err_from_is_err_and}
use Rattle.cp_tool.specs.AuditRuns.{AuditFiles, content_at, named, own, own_before}
use Rattle.cp_commands.specs.View.{audit_words_view}
use Rattle.cp_endings.specs.Folders.{Files, files_of}
use Rattle.cp_endings.specs.declared.epoch_part.EpochPart.TheVariants.{Families, Closing, Table, Log}
use Rattle.cp_tool.proofs.SourceLemmas.{all_read, follows_next, follows_none, source_later, refused_1, refused_2, refused_3, refused_4, refused_5, refused_6, refused_7, refused_8}
use Rattle.cp_tool.proofs.audit_sources.Sources.read.Goals as goal

pub returns-in_err-key-clause-reads : goal.returns-in_err-key-clause-reads
returns-in_err-key-clause-reads g c =
    let words = audit_words_view c.args.words in
    let old : Files = files_of g.F.Folder c.args.files.now in
    let f0 = follows_none old in
    let s0 : old.read_faults ≡ old.read_faults = refl in
    let r1 = source_later old old (named words.key 56) _ _ f0 s0 c.in_err-key.ensures.reads in
    let n1 : Files = files_of g.F.Folder c.named_file.new.files in
    let f1 = follows_next old old n1 f0 c.named_file.ensures.kept c.named_file.ensures.tells c.in_err-key.ensures.reads.later in
    let files : AuditFiles = record { key = r1.content; families = content_at old.file (own Families words.epoch 1048576); before = content_at old.file (own_before Closing words.epoch 16384); closing = content_at old.file (own Closing words.epoch 16384); table_before = content_at old.file (own_before Table words.epoch 16777216); table = content_at old.file (own Table words.epoch 16777216); log = content_at old.file (own Log words.epoch 335544320); hand_ins = content_at old.file (named words.hand_ins 67108864) } in
    let p = err_from_is_err_and c.from_residual.result c.from_residual.ensures.1 in
    rw (p.1, p.2) (record {
      files = files;
      are_files = λ t i. record { key = r1.told t i; families = content_at old.file (own Families words.epoch 1048576); before = content_at old.file (own_before Closing words.epoch 16384); closing = content_at old.file (own Closing words.epoch 16384); table_before = content_at old.file (own_before Table words.epoch 16777216); table = content_at old.file (own Table words.epoch 16777216); log = content_at old.file (own Log words.epoch 335544320); hand_ins = content_at old.file (named words.hand_ins 67108864) };
      gives = elim r1.gives [ inl refused ↦ inl (refused_1 words files _ refused) | inr stops ↦ inr stops ];
      follows = f1;
      failed = r1.failed;
    })

pub returns-in_err-families-clause-reads : goal.returns-in_err-families-clause-reads
returns-in_err-families-clause-reads g c =
    let words = audit_words_view c.args.words in
    let old : Files = files_of g.F.Folder c.args.files.now in
    let f0 = follows_none old in
    let s0 : old.read_faults ≡ old.read_faults = refl in
    let r1 = source_later old old (named words.key 56) _ _ f0 s0 c.in_ok-key.ensures.reads in
    let n1 : Files = files_of g.F.Folder c.named_file.new.files in
    let f1 = follows_next old old n1 f0 c.named_file.ensures.kept c.named_file.ensures.tells c.in_ok-key.ensures.reads.later in
    let s1 : n1.read_faults ≡ old.read_faults = c.in_ok-key.ensures.reads.failed ∙ s0 in
    let r2 = source_later old n1 (own Families words.epoch 1048576) _ _ f1 s1 c.in_err-families.ensures.reads in
    let n2 : Files = files_of g.F.Folder c.own_file.new.files in
    let f2 = follows_next old n1 n2 f1 c.own_file.ensures.kept c.own_file.ensures.tells c.in_err-families.ensures.reads.later in
    let files : AuditFiles = record { key = r1.content; families = r2.content; before = content_at old.file (own_before Closing words.epoch 16384); closing = content_at old.file (own Closing words.epoch 16384); table_before = content_at old.file (own_before Table words.epoch 16777216); table = content_at old.file (own Table words.epoch 16777216); log = content_at old.file (own Log words.epoch 335544320); hand_ins = content_at old.file (named words.hand_ins 67108864) } in
    let p = err_from_is_err_and c.from_residual-in_err-families.result c.from_residual-in_err-families.ensures.1 in
    rw (p.1, p.2) (record {
      files = files;
      are_files = λ t i. record { key = r1.told t i; families = r2.told t i; before = content_at old.file (own_before Closing words.epoch 16384); closing = content_at old.file (own Closing words.epoch 16384); table_before = content_at old.file (own_before Table words.epoch 16777216); table = content_at old.file (own Table words.epoch 16777216); log = content_at old.file (own Log words.epoch 335544320); hand_ins = content_at old.file (named words.hand_ins 67108864) };
      gives = elim r2.gives [ inl refused ↦ inl (refused_2 words files _ _ r1.gives refused) | inr stops ↦ inr stops ];
      follows = f2;
      failed = r2.failed;
    })

pub returns-in_err-before-clause-reads : goal.returns-in_err-before-clause-reads
returns-in_err-before-clause-reads g c =
    let words = audit_words_view c.args.words in
    let old : Files = files_of g.F.Folder c.args.files.now in
    let f0 = follows_none old in
    let s0 : old.read_faults ≡ old.read_faults = refl in
    let r1 = source_later old old (named words.key 56) _ _ f0 s0 c.in_ok-key.ensures.reads in
    let n1 : Files = files_of g.F.Folder c.named_file.new.files in
    let f1 = follows_next old old n1 f0 c.named_file.ensures.kept c.named_file.ensures.tells c.in_ok-key.ensures.reads.later in
    let s1 : n1.read_faults ≡ old.read_faults = c.in_ok-key.ensures.reads.failed ∙ s0 in
    let r2 = source_later old n1 (own Families words.epoch 1048576) _ _ f1 s1 c.in_ok-families.ensures.reads in
    let n2 : Files = files_of g.F.Folder c.own_file.new.files in
    let f2 = follows_next old n1 n2 f1 c.own_file.ensures.kept c.own_file.ensures.tells c.in_ok-families.ensures.reads.later in
    let s2 : n2.read_faults ≡ old.read_faults = c.in_ok-families.ensures.reads.failed ∙ s1 in
    let r3 = source_later old n2 (own_before Closing words.epoch 16384) _ _ f2 s2 c.in_err-before.ensures.reads in
    let n3 : Files = files_of g.F.Folder c.file_before.new.files in
    let f3 = follows_next old n2 n3 f2 c.file_before.ensures.kept c.file_before.ensures.tells c.in_err-before.ensures.reads.later in
    let files : AuditFiles = record { key = r1.content; families = r2.content; before = r3.content; closing = content_at old.file (own Closing words.epoch 16384); table_before = content_at old.file (own_before Table words.epoch 16777216); table = content_at old.file (own Table words.epoch 16777216); log = content_at old.file (own Log words.epoch 335544320); hand_ins = content_at old.file (named words.hand_ins 67108864) } in
    let p = err_from_is_err_and c.from_residual-in_err-before.result c.from_residual-in_err-before.ensures.1 in
    rw (p.1, p.2) (record {
      files = files;
      are_files = λ t i. record { key = r1.told t i; families = r2.told t i; before = r3.told t i; closing = content_at old.file (own Closing words.epoch 16384); table_before = content_at old.file (own_before Table words.epoch 16777216); table = content_at old.file (own Table words.epoch 16777216); log = content_at old.file (own Log words.epoch 335544320); hand_ins = content_at old.file (named words.hand_ins 67108864) };
      gives = elim r3.gives [ inl refused ↦ inl (refused_3 words files _ _ _ r1.gives r2.gives refused) | inr stops ↦ inr stops ];
      follows = f3;
      failed = r3.failed;
    })

pub returns-in_err-closing-clause-reads : goal.returns-in_err-closing-clause-reads
returns-in_err-closing-clause-reads g c =
    let words = audit_words_view c.args.words in
    let old : Files = files_of g.F.Folder c.args.files.now in
    let f0 = follows_none old in
    let s0 : old.read_faults ≡ old.read_faults = refl in
    let r1 = source_later old old (named words.key 56) _ _ f0 s0 c.in_ok-key.ensures.reads in
    let n1 : Files = files_of g.F.Folder c.named_file.new.files in
    let f1 = follows_next old old n1 f0 c.named_file.ensures.kept c.named_file.ensures.tells c.in_ok-key.ensures.reads.later in
    let s1 : n1.read_faults ≡ old.read_faults = c.in_ok-key.ensures.reads.failed ∙ s0 in
    let r2 = source_later old n1 (own Families words.epoch 1048576) _ _ f1 s1 c.in_ok-families.ensures.reads in
    let n2 : Files = files_of g.F.Folder c.own_file.new.files in
    let f2 = follows_next old n1 n2 f1 c.own_file.ensures.kept c.own_file.ensures.tells c.in_ok-families.ensures.reads.later in
    let s2 : n2.read_faults ≡ old.read_faults = c.in_ok-families.ensures.reads.failed ∙ s1 in
    let r3 = source_later old n2 (own_before Closing words.epoch 16384) _ _ f2 s2 c.in_ok-before.ensures.reads in
    let n3 : Files = files_of g.F.Folder c.file_before.new.files in
    let f3 = follows_next old n2 n3 f2 c.file_before.ensures.kept c.file_before.ensures.tells c.in_ok-before.ensures.reads.later in
    let s3 : n3.read_faults ≡ old.read_faults = c.in_ok-before.ensures.reads.failed ∙ s2 in
    let r4 = source_later old n3 (own Closing words.epoch 16384) _ _ f3 s3 c.in_err-closing.ensures.reads in
    let n4 : Files = files_of g.F.Folder c.own_file-2.new.files in
    let f4 = follows_next old n3 n4 f3 c.own_file-2.ensures.kept c.own_file-2.ensures.tells c.in_err-closing.ensures.reads.later in
    let files : AuditFiles = record { key = r1.content; families = r2.content; before = r3.content; closing = r4.content; table_before = content_at old.file (own_before Table words.epoch 16777216); table = content_at old.file (own Table words.epoch 16777216); log = content_at old.file (own Log words.epoch 335544320); hand_ins = content_at old.file (named words.hand_ins 67108864) } in
    let p = err_from_is_err_and c.from_residual-in_err-closing.result c.from_residual-in_err-closing.ensures.1 in
    rw (p.1, p.2) (record {
      files = files;
      are_files = λ t i. record { key = r1.told t i; families = r2.told t i; before = r3.told t i; closing = r4.told t i; table_before = content_at old.file (own_before Table words.epoch 16777216); table = content_at old.file (own Table words.epoch 16777216); log = content_at old.file (own Log words.epoch 335544320); hand_ins = content_at old.file (named words.hand_ins 67108864) };
      gives = elim r4.gives [ inl refused ↦ inl (refused_4 words files _ _ _ _ r1.gives r2.gives r3.gives refused) | inr stops ↦ inr stops ];
      follows = f4;
      failed = r4.failed;
    })

pub returns-in_err-table_before-clause-reads : goal.returns-in_err-table_before-clause-reads
returns-in_err-table_before-clause-reads g c =
    let words = audit_words_view c.args.words in
    let old : Files = files_of g.F.Folder c.args.files.now in
    let f0 = follows_none old in
    let s0 : old.read_faults ≡ old.read_faults = refl in
    let r1 = source_later old old (named words.key 56) _ _ f0 s0 c.in_ok-key.ensures.reads in
    let n1 : Files = files_of g.F.Folder c.named_file.new.files in
    let f1 = follows_next old old n1 f0 c.named_file.ensures.kept c.named_file.ensures.tells c.in_ok-key.ensures.reads.later in
    let s1 : n1.read_faults ≡ old.read_faults = c.in_ok-key.ensures.reads.failed ∙ s0 in
    let r2 = source_later old n1 (own Families words.epoch 1048576) _ _ f1 s1 c.in_ok-families.ensures.reads in
    let n2 : Files = files_of g.F.Folder c.own_file.new.files in
    let f2 = follows_next old n1 n2 f1 c.own_file.ensures.kept c.own_file.ensures.tells c.in_ok-families.ensures.reads.later in
    let s2 : n2.read_faults ≡ old.read_faults = c.in_ok-families.ensures.reads.failed ∙ s1 in
    let r3 = source_later old n2 (own_before Closing words.epoch 16384) _ _ f2 s2 c.in_ok-before.ensures.reads in
    let n3 : Files = files_of g.F.Folder c.file_before.new.files in
    let f3 = follows_next old n2 n3 f2 c.file_before.ensures.kept c.file_before.ensures.tells c.in_ok-before.ensures.reads.later in
    let s3 : n3.read_faults ≡ old.read_faults = c.in_ok-before.ensures.reads.failed ∙ s2 in
    let r4 = source_later old n3 (own Closing words.epoch 16384) _ _ f3 s3 c.in_ok-closing.ensures.reads in
    let n4 : Files = files_of g.F.Folder c.own_file-2.new.files in
    let f4 = follows_next old n3 n4 f3 c.own_file-2.ensures.kept c.own_file-2.ensures.tells c.in_ok-closing.ensures.reads.later in
    let s4 : n4.read_faults ≡ old.read_faults = c.in_ok-closing.ensures.reads.failed ∙ s3 in
    let r5 = source_later old n4 (own_before Table words.epoch 16777216) _ _ f4 s4 c.in_err-table_before.ensures.reads in
    let n5 : Files = files_of g.F.Folder c.file_before-2.new.files in
    let f5 = follows_next old n4 n5 f4 c.file_before-2.ensures.kept c.file_before-2.ensures.tells c.in_err-table_before.ensures.reads.later in
    let files : AuditFiles = record { key = r1.content; families = r2.content; before = r3.content; closing = r4.content; table_before = r5.content; table = content_at old.file (own Table words.epoch 16777216); log = content_at old.file (own Log words.epoch 335544320); hand_ins = content_at old.file (named words.hand_ins 67108864) } in
    let p = err_from_is_err_and c.from_residual-in_err-table_before.result c.from_residual-in_err-table_before.ensures.1 in
    rw (p.1, p.2) (record {
      files = files;
      are_files = λ t i. record { key = r1.told t i; families = r2.told t i; before = r3.told t i; closing = r4.told t i; table_before = r5.told t i; table = content_at old.file (own Table words.epoch 16777216); log = content_at old.file (own Log words.epoch 335544320); hand_ins = content_at old.file (named words.hand_ins 67108864) };
      gives = elim r5.gives [ inl refused ↦ inl (refused_5 words files _ _ _ _ _ r1.gives r2.gives r3.gives r4.gives refused) | inr stops ↦ inr stops ];
      follows = f5;
      failed = r5.failed;
    })

pub returns-in_err-table-clause-reads : goal.returns-in_err-table-clause-reads
returns-in_err-table-clause-reads g c =
    let words = audit_words_view c.args.words in
    let old : Files = files_of g.F.Folder c.args.files.now in
    let f0 = follows_none old in
    let s0 : old.read_faults ≡ old.read_faults = refl in
    let r1 = source_later old old (named words.key 56) _ _ f0 s0 c.in_ok-key.ensures.reads in
    let n1 : Files = files_of g.F.Folder c.named_file.new.files in
    let f1 = follows_next old old n1 f0 c.named_file.ensures.kept c.named_file.ensures.tells c.in_ok-key.ensures.reads.later in
    let s1 : n1.read_faults ≡ old.read_faults = c.in_ok-key.ensures.reads.failed ∙ s0 in
    let r2 = source_later old n1 (own Families words.epoch 1048576) _ _ f1 s1 c.in_ok-families.ensures.reads in
    let n2 : Files = files_of g.F.Folder c.own_file.new.files in
    let f2 = follows_next old n1 n2 f1 c.own_file.ensures.kept c.own_file.ensures.tells c.in_ok-families.ensures.reads.later in
    let s2 : n2.read_faults ≡ old.read_faults = c.in_ok-families.ensures.reads.failed ∙ s1 in
    let r3 = source_later old n2 (own_before Closing words.epoch 16384) _ _ f2 s2 c.in_ok-before.ensures.reads in
    let n3 : Files = files_of g.F.Folder c.file_before.new.files in
    let f3 = follows_next old n2 n3 f2 c.file_before.ensures.kept c.file_before.ensures.tells c.in_ok-before.ensures.reads.later in
    let s3 : n3.read_faults ≡ old.read_faults = c.in_ok-before.ensures.reads.failed ∙ s2 in
    let r4 = source_later old n3 (own Closing words.epoch 16384) _ _ f3 s3 c.in_ok-closing.ensures.reads in
    let n4 : Files = files_of g.F.Folder c.own_file-2.new.files in
    let f4 = follows_next old n3 n4 f3 c.own_file-2.ensures.kept c.own_file-2.ensures.tells c.in_ok-closing.ensures.reads.later in
    let s4 : n4.read_faults ≡ old.read_faults = c.in_ok-closing.ensures.reads.failed ∙ s3 in
    let r5 = source_later old n4 (own_before Table words.epoch 16777216) _ _ f4 s4 c.in_ok-table_before.ensures.reads in
    let n5 : Files = files_of g.F.Folder c.file_before-2.new.files in
    let f5 = follows_next old n4 n5 f4 c.file_before-2.ensures.kept c.file_before-2.ensures.tells c.in_ok-table_before.ensures.reads.later in
    let s5 : n5.read_faults ≡ old.read_faults = c.in_ok-table_before.ensures.reads.failed ∙ s4 in
    let r6 = source_later old n5 (own Table words.epoch 16777216) _ _ f5 s5 c.in_err-table.ensures.reads in
    let n6 : Files = files_of g.F.Folder c.own_file-3.new.files in
    let f6 = follows_next old n5 n6 f5 c.own_file-3.ensures.kept c.own_file-3.ensures.tells c.in_err-table.ensures.reads.later in
    let files : AuditFiles = record { key = r1.content; families = r2.content; before = r3.content; closing = r4.content; table_before = r5.content; table = r6.content; log = content_at old.file (own Log words.epoch 335544320); hand_ins = content_at old.file (named words.hand_ins 67108864) } in
    let p = err_from_is_err_and c.from_residual-in_err-table.result c.from_residual-in_err-table.ensures.1 in
    rw (p.1, p.2) (record {
      files = files;
      are_files = λ t i. record { key = r1.told t i; families = r2.told t i; before = r3.told t i; closing = r4.told t i; table_before = r5.told t i; table = r6.told t i; log = content_at old.file (own Log words.epoch 335544320); hand_ins = content_at old.file (named words.hand_ins 67108864) };
      gives = elim r6.gives [ inl refused ↦ inl (refused_6 words files _ _ _ _ _ _ r1.gives r2.gives r3.gives r4.gives r5.gives refused) | inr stops ↦ inr stops ];
      follows = f6;
      failed = r6.failed;
    })

pub returns-in_err-log-clause-reads : goal.returns-in_err-log-clause-reads
returns-in_err-log-clause-reads g c =
    let words = audit_words_view c.args.words in
    let old : Files = files_of g.F.Folder c.args.files.now in
    let f0 = follows_none old in
    let s0 : old.read_faults ≡ old.read_faults = refl in
    let r1 = source_later old old (named words.key 56) _ _ f0 s0 c.in_ok-key.ensures.reads in
    let n1 : Files = files_of g.F.Folder c.named_file.new.files in
    let f1 = follows_next old old n1 f0 c.named_file.ensures.kept c.named_file.ensures.tells c.in_ok-key.ensures.reads.later in
    let s1 : n1.read_faults ≡ old.read_faults = c.in_ok-key.ensures.reads.failed ∙ s0 in
    let r2 = source_later old n1 (own Families words.epoch 1048576) _ _ f1 s1 c.in_ok-families.ensures.reads in
    let n2 : Files = files_of g.F.Folder c.own_file.new.files in
    let f2 = follows_next old n1 n2 f1 c.own_file.ensures.kept c.own_file.ensures.tells c.in_ok-families.ensures.reads.later in
    let s2 : n2.read_faults ≡ old.read_faults = c.in_ok-families.ensures.reads.failed ∙ s1 in
    let r3 = source_later old n2 (own_before Closing words.epoch 16384) _ _ f2 s2 c.in_ok-before.ensures.reads in
    let n3 : Files = files_of g.F.Folder c.file_before.new.files in
    let f3 = follows_next old n2 n3 f2 c.file_before.ensures.kept c.file_before.ensures.tells c.in_ok-before.ensures.reads.later in
    let s3 : n3.read_faults ≡ old.read_faults = c.in_ok-before.ensures.reads.failed ∙ s2 in
    let r4 = source_later old n3 (own Closing words.epoch 16384) _ _ f3 s3 c.in_ok-closing.ensures.reads in
    let n4 : Files = files_of g.F.Folder c.own_file-2.new.files in
    let f4 = follows_next old n3 n4 f3 c.own_file-2.ensures.kept c.own_file-2.ensures.tells c.in_ok-closing.ensures.reads.later in
    let s4 : n4.read_faults ≡ old.read_faults = c.in_ok-closing.ensures.reads.failed ∙ s3 in
    let r5 = source_later old n4 (own_before Table words.epoch 16777216) _ _ f4 s4 c.in_ok-table_before.ensures.reads in
    let n5 : Files = files_of g.F.Folder c.file_before-2.new.files in
    let f5 = follows_next old n4 n5 f4 c.file_before-2.ensures.kept c.file_before-2.ensures.tells c.in_ok-table_before.ensures.reads.later in
    let s5 : n5.read_faults ≡ old.read_faults = c.in_ok-table_before.ensures.reads.failed ∙ s4 in
    let r6 = source_later old n5 (own Table words.epoch 16777216) _ _ f5 s5 c.in_ok-table.ensures.reads in
    let n6 : Files = files_of g.F.Folder c.own_file-3.new.files in
    let f6 = follows_next old n5 n6 f5 c.own_file-3.ensures.kept c.own_file-3.ensures.tells c.in_ok-table.ensures.reads.later in
    let s6 : n6.read_faults ≡ old.read_faults = c.in_ok-table.ensures.reads.failed ∙ s5 in
    let r7 = source_later old n6 (own Log words.epoch 335544320) _ _ f6 s6 c.in_err-log.ensures.reads in
    let n7 : Files = files_of g.F.Folder c.own_file-4.new.files in
    let f7 = follows_next old n6 n7 f6 c.own_file-4.ensures.kept c.own_file-4.ensures.tells c.in_err-log.ensures.reads.later in
    let files : AuditFiles = record { key = r1.content; families = r2.content; before = r3.content; closing = r4.content; table_before = r5.content; table = r6.content; log = r7.content; hand_ins = content_at old.file (named words.hand_ins 67108864) } in
    let p = err_from_is_err_and c.from_residual-in_err-log.result c.from_residual-in_err-log.ensures.1 in
    rw (p.1, p.2) (record {
      files = files;
      are_files = λ t i. record { key = r1.told t i; families = r2.told t i; before = r3.told t i; closing = r4.told t i; table_before = r5.told t i; table = r6.told t i; log = r7.told t i; hand_ins = content_at old.file (named words.hand_ins 67108864) };
      gives = elim r7.gives [ inl refused ↦ inl (refused_7 words files _ _ _ _ _ _ _ r1.gives r2.gives r3.gives r4.gives r5.gives r6.gives refused) | inr stops ↦ inr stops ];
      follows = f7;
      failed = r7.failed;
    })

pub returns-in_err-hand_ins-clause-reads : goal.returns-in_err-hand_ins-clause-reads
returns-in_err-hand_ins-clause-reads g c =
    let words = audit_words_view c.args.words in
    let old : Files = files_of g.F.Folder c.args.files.now in
    let f0 = follows_none old in
    let s0 : old.read_faults ≡ old.read_faults = refl in
    let r1 = source_later old old (named words.key 56) _ _ f0 s0 c.in_ok-key.ensures.reads in
    let n1 : Files = files_of g.F.Folder c.named_file.new.files in
    let f1 = follows_next old old n1 f0 c.named_file.ensures.kept c.named_file.ensures.tells c.in_ok-key.ensures.reads.later in
    let s1 : n1.read_faults ≡ old.read_faults = c.in_ok-key.ensures.reads.failed ∙ s0 in
    let r2 = source_later old n1 (own Families words.epoch 1048576) _ _ f1 s1 c.in_ok-families.ensures.reads in
    let n2 : Files = files_of g.F.Folder c.own_file.new.files in
    let f2 = follows_next old n1 n2 f1 c.own_file.ensures.kept c.own_file.ensures.tells c.in_ok-families.ensures.reads.later in
    let s2 : n2.read_faults ≡ old.read_faults = c.in_ok-families.ensures.reads.failed ∙ s1 in
    let r3 = source_later old n2 (own_before Closing words.epoch 16384) _ _ f2 s2 c.in_ok-before.ensures.reads in
    let n3 : Files = files_of g.F.Folder c.file_before.new.files in
    let f3 = follows_next old n2 n3 f2 c.file_before.ensures.kept c.file_before.ensures.tells c.in_ok-before.ensures.reads.later in
    let s3 : n3.read_faults ≡ old.read_faults = c.in_ok-before.ensures.reads.failed ∙ s2 in
    let r4 = source_later old n3 (own Closing words.epoch 16384) _ _ f3 s3 c.in_ok-closing.ensures.reads in
    let n4 : Files = files_of g.F.Folder c.own_file-2.new.files in
    let f4 = follows_next old n3 n4 f3 c.own_file-2.ensures.kept c.own_file-2.ensures.tells c.in_ok-closing.ensures.reads.later in
    let s4 : n4.read_faults ≡ old.read_faults = c.in_ok-closing.ensures.reads.failed ∙ s3 in
    let r5 = source_later old n4 (own_before Table words.epoch 16777216) _ _ f4 s4 c.in_ok-table_before.ensures.reads in
    let n5 : Files = files_of g.F.Folder c.file_before-2.new.files in
    let f5 = follows_next old n4 n5 f4 c.file_before-2.ensures.kept c.file_before-2.ensures.tells c.in_ok-table_before.ensures.reads.later in
    let s5 : n5.read_faults ≡ old.read_faults = c.in_ok-table_before.ensures.reads.failed ∙ s4 in
    let r6 = source_later old n5 (own Table words.epoch 16777216) _ _ f5 s5 c.in_ok-table.ensures.reads in
    let n6 : Files = files_of g.F.Folder c.own_file-3.new.files in
    let f6 = follows_next old n5 n6 f5 c.own_file-3.ensures.kept c.own_file-3.ensures.tells c.in_ok-table.ensures.reads.later in
    let s6 : n6.read_faults ≡ old.read_faults = c.in_ok-table.ensures.reads.failed ∙ s5 in
    let r7 = source_later old n6 (own Log words.epoch 335544320) _ _ f6 s6 c.in_ok-log.ensures.reads in
    let n7 : Files = files_of g.F.Folder c.own_file-4.new.files in
    let f7 = follows_next old n6 n7 f6 c.own_file-4.ensures.kept c.own_file-4.ensures.tells c.in_ok-log.ensures.reads.later in
    let s7 : n7.read_faults ≡ old.read_faults = c.in_ok-log.ensures.reads.failed ∙ s6 in
    let r8 = source_later old n7 (named words.hand_ins 67108864) _ _ f7 s7 c.in_err-hand_ins.ensures.reads in
    let n8 : Files = files_of g.F.Folder c.named_file-2.new.files in
    let f8 = follows_next old n7 n8 f7 c.named_file-2.ensures.kept c.named_file-2.ensures.tells c.in_err-hand_ins.ensures.reads.later in
    let files : AuditFiles = record { key = r1.content; families = r2.content; before = r3.content; closing = r4.content; table_before = r5.content; table = r6.content; log = r7.content; hand_ins = r8.content } in
    let p = err_from_is_err_and c.from_residual-in_err-hand_ins.result c.from_residual-in_err-hand_ins.ensures.1 in
    rw (p.1, p.2) (record {
      files = files;
      are_files = λ t i. record { key = r1.told t i; families = r2.told t i; before = r3.told t i; closing = r4.told t i; table_before = r5.told t i; table = r6.told t i; log = r7.told t i; hand_ins = r8.told t i };
      gives = elim r8.gives [ inl refused ↦ inl (refused_8 words files _ _ _ _ _ _ _ _ r1.gives r2.gives r3.gives r4.gives r5.gives r6.gives r7.gives refused) | inr stops ↦ inr stops ];
      follows = f8;
      failed = r8.failed;
    })

pub returns-clause-reads : goal.returns-clause-reads
returns-clause-reads g c =
    let words = audit_words_view c.args.words in
    let old : Files = files_of g.F.Folder c.args.files.now in
    let f0 = follows_none old in
    let s0 : old.read_faults ≡ old.read_faults = refl in
    let r1 = source_later old old (named words.key 56) _ _ f0 s0 c.in_ok-key.ensures.reads in
    let n1 : Files = files_of g.F.Folder c.named_file.new.files in
    let f1 = follows_next old old n1 f0 c.named_file.ensures.kept c.named_file.ensures.tells c.in_ok-key.ensures.reads.later in
    let s1 : n1.read_faults ≡ old.read_faults = c.in_ok-key.ensures.reads.failed ∙ s0 in
    let r2 = source_later old n1 (own Families words.epoch 1048576) _ _ f1 s1 c.in_ok-families.ensures.reads in
    let n2 : Files = files_of g.F.Folder c.own_file.new.files in
    let f2 = follows_next old n1 n2 f1 c.own_file.ensures.kept c.own_file.ensures.tells c.in_ok-families.ensures.reads.later in
    let s2 : n2.read_faults ≡ old.read_faults = c.in_ok-families.ensures.reads.failed ∙ s1 in
    let r3 = source_later old n2 (own_before Closing words.epoch 16384) _ _ f2 s2 c.in_ok-before.ensures.reads in
    let n3 : Files = files_of g.F.Folder c.file_before.new.files in
    let f3 = follows_next old n2 n3 f2 c.file_before.ensures.kept c.file_before.ensures.tells c.in_ok-before.ensures.reads.later in
    let s3 : n3.read_faults ≡ old.read_faults = c.in_ok-before.ensures.reads.failed ∙ s2 in
    let r4 = source_later old n3 (own Closing words.epoch 16384) _ _ f3 s3 c.in_ok-closing.ensures.reads in
    let n4 : Files = files_of g.F.Folder c.own_file-2.new.files in
    let f4 = follows_next old n3 n4 f3 c.own_file-2.ensures.kept c.own_file-2.ensures.tells c.in_ok-closing.ensures.reads.later in
    let s4 : n4.read_faults ≡ old.read_faults = c.in_ok-closing.ensures.reads.failed ∙ s3 in
    let r5 = source_later old n4 (own_before Table words.epoch 16777216) _ _ f4 s4 c.in_ok-table_before.ensures.reads in
    let n5 : Files = files_of g.F.Folder c.file_before-2.new.files in
    let f5 = follows_next old n4 n5 f4 c.file_before-2.ensures.kept c.file_before-2.ensures.tells c.in_ok-table_before.ensures.reads.later in
    let s5 : n5.read_faults ≡ old.read_faults = c.in_ok-table_before.ensures.reads.failed ∙ s4 in
    let r6 = source_later old n5 (own Table words.epoch 16777216) _ _ f5 s5 c.in_ok-table.ensures.reads in
    let n6 : Files = files_of g.F.Folder c.own_file-3.new.files in
    let f6 = follows_next old n5 n6 f5 c.own_file-3.ensures.kept c.own_file-3.ensures.tells c.in_ok-table.ensures.reads.later in
    let s6 : n6.read_faults ≡ old.read_faults = c.in_ok-table.ensures.reads.failed ∙ s5 in
    let r7 = source_later old n6 (own Log words.epoch 335544320) _ _ f6 s6 c.in_ok-log.ensures.reads in
    let n7 : Files = files_of g.F.Folder c.own_file-4.new.files in
    let f7 = follows_next old n6 n7 f6 c.own_file-4.ensures.kept c.own_file-4.ensures.tells c.in_ok-log.ensures.reads.later in
    let s7 : n7.read_faults ≡ old.read_faults = c.in_ok-log.ensures.reads.failed ∙ s6 in
    let r8 = source_later old n7 (named words.hand_ins 67108864) _ _ f7 s7 c.in_ok-hand_ins.ensures.reads in
    let n8 : Files = files_of g.F.Folder c.named_file-2.new.files in
    let f8 = follows_next old n7 n8 f7 c.named_file-2.ensures.kept c.named_file-2.ensures.tells c.in_ok-hand_ins.ensures.reads.later in
    let files : AuditFiles = record { key = r1.content; families = r2.content; before = r3.content; closing = r4.content; table_before = r5.content; table = r6.content; log = r7.content; hand_ins = r8.content } in
    record {
      files = files;
      are_files = λ t i. record { key = r1.told t i; families = r2.told t i; before = r3.told t i; closing = r4.told t i; table_before = r5.told t i; table = r6.told t i; log = r7.told t i; hand_ins = r8.told t i };
      gives = all_read words files _ _ _ _ _ _ _ _ r1.gives r2.gives r3.gives r4.gives r5.gives r6.gives r7.gives r8.gives;
      follows = f8;
      failed = r8.failed;
    }
