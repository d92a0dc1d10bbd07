use Rattle.std.proofs.Common.{◌≡◌, length, sym, rules}
use Rattle.std.proofs.lemmas.List.{take_at, places}
use Rattle.lms_tree.proofs.public_key.PublicKey.id.Goals as goal

pub returns : goal.returns
returns c =
    let long : length c.self.inside.id ≡ 16 = search (rules, places) in
    rw (← c.self.view_is) (sym (take_at c.self.inside.id c.self.inside.root 16 long))
