use Rattle.std.proofs.Common.{◌≡◌, length, sym, rules}
use Rattle.std.proofs.lemmas.List.{drop_at, places}
use Rattle.lms_tree.proofs.public_key.PublicKey.root.Goals as goal

pub returns : goal.returns
returns c =
    let long : length c.self.inside.id ≡ 16 = search (rules, places) in
    rw (← c.self.view_is) (sym (drop_at c.self.inside.id c.self.inside.root 16 long))
