use Rattle.cp_evidence.proofs.ReadingEvidence.{evidence_exact}
use Rattle.cp_evidence.proofs.ReadingHandIns.{hand_ins_exact}
use Rattle.cp_evidence.proofs.laws.texts_are_exact.Goals as goal

pub returns : goal.returns
returns c = record { evidence = evidence_exact; hand_ins = hand_ins_exact }
