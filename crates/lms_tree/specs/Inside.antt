-- What a private key's fields say.
use Rattle.std.specs.Prelude.{◌≡◌, length}
use Rattle.lms_tree.specs.Secret.{Secret}
use Rattle.lms_tree.specs.Kept.{HoldsNodes}
use Rattle.lms_tree.specs.declared.private_key.PrivateKey.TheInside.{Inside}

abbrev pub secret_of : Inside → Secret
secret_of a = record { height = a.height; ots = a.ots; id = a.id; seed = a.seed }

-- the identifier has its length, and all nodes stand in their places
pub record IsWhole (a : Inside) : Type 0 where
  pub id_long : length a.id ≡ 16
  pub nodes : HoldsNodes (secret_of a) a.nodes.items
