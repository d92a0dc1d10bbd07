use Rattle.cp_endings.proofs.client_printing.put_client_ending.Goals as goal

pub returns-in-AskedPut : goal.returns-in-AskedPut
returns-in-AskedPut g c = rw c.in-AskedPut.is c.put_number.ensures
