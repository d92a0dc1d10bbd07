-- What contracts see of a shard (this project's own).
use Rattle.std.specs.Prelude.{ℕ, List}
use Rattle.cp_core.specs.declared.content.Content.{Content}
use Rattle.cp_core.specs.declared.item.Item.{Item}

pub record ShardModel : Type 0 where
  pub store : List ℕ  -- SHA-256 of the store's key
  pub index : ℕ  -- which of the sixteen shards it is
  pub pages : ℕ  -- the number of its pages
  pub closings : ℕ  -- how many freezes there is room for
  pub first : List ℕ  -- the text of the families list of epoch 1
  pub items : List Item
  pub contents : List Content  -- for each put, its block with the block's latest content
