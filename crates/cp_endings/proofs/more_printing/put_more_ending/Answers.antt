use Rattle.cp_endings.proofs.more_printing.put_more_ending.Goals as goal

pub returns-in-Certified : goal.returns-in-Certified
returns-in-Certified g c = rw (c.in-Certified.is, ← c.from.ensures) c.put_number.ensures

pub returns-in-BadCertificate : goal.returns-in-BadCertificate
returns-in-BadCertificate g c = rw c.in-BadCertificate.is c.put_line.ensures

pub returns-in-NotForgedInvalid : goal.returns-in-NotForgedInvalid
returns-in-NotForgedInvalid g c = rw c.in-NotForgedInvalid.is c.put_line-in-NotForgedInvalid.ensures

pub returns-in-NotForgedKnown : goal.returns-in-NotForgedKnown
returns-in-NotForgedKnown g c = rw c.in-NotForgedKnown.is c.put_line-in-NotForgedKnown.ensures

pub returns-in-LeafUsed : goal.returns-in-LeafUsed
returns-in-LeafUsed g c = rw (c.in-LeafUsed.is, ← c.from-in-LeafUsed.ensures) c.put_number-in-LeafUsed.ensures
