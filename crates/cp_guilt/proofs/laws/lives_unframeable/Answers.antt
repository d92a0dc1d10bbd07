use Rattle.lms_hss.specs.Hss.{life_key}
use Rattle.cp_guilt.proofs.NoFraming.{never_framed}
use Rattle.cp_guilt.proofs.laws.lives_unframeable.Goals as goal

pub returns : goal.returns
returns c = λ key bytes each certificate certified convicts.
    let life = each certificate certified in
    never_framed life.store (life_key key certificate) life.life bytes life.id life.honest life.holder life.collision_free convicts
