use Rattle.std.proofs.lemmas.Bool.{false_from_ne_true}
use Rattle.cp_chain.proofs.Chain.{legal_unbroken}
use Rattle.cp_chain.proofs.Unbroken.{unbroken_legal}
use Rattle.cp_chain.proofs.laws.legal_is_unbroken.Goals as goal

pub returns : goal.returns
returns c f texts = (λ legal rule i other. false_from_ne_true _ (λ e. legal_unbroken f texts rule i other legal e), λ whole. unbroken_legal f texts whole)
