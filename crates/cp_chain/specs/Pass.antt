-- What is found at one place of a segment, as its texts are gone through from the front.
use Rattle.std.specs.Prelude.{ℕ, ◌+◌, ◌≡◌, ◌≤◌, Bool, false, not, ◌&&◌, List, [], ◌∷◌, map, find, option_map, Option, Some, Result, Ok, Err, ◌==◌}
use Rattle.std.specs.List.{AllByRecursion}
use Rattle.cp_statements.specs.Entry.{Entry, entry_of}
use Rattle.cp_families.specs.Writers.{writer}
use Rattle.cp_chain.specs.Frame.{Side, Frame}
use Rattle.cp_chain.specs.Legal.{Put, same_put, put_at, put_by}
use Rattle.cp_chain.specs.Rules.{Rule, all_rules, Found, first_of, found_if, rule_at}
use Rattle.cp_chain.specs.Rules.Rule.{Text, Block, Epoch, Position, Latest, Version, Writer, Repeat, LastTip}

-- the first fault at place i
unfoldable pub fault_at : Frame → List (List ℕ) → ℕ → Option Found
fault_at f texts i = first_of (map (rule_at f texts i) all_rules)

-- the rules that an entry breaks by itself
abbrev pub rules_of_one : List Rule
rules_of_one = Block ∷ Epoch ∷ Position ∷ Latest ∷ Version ∷ Writer ∷ []

-- the entry breaks such a rule at place i, where this is the latest put before it
abbrev pub entry_breaks : Side → Put → ℕ → Entry → Rule → Bool
entry_breaks s latest i e Text = false
entry_breaks s latest i e Block = not (e.block == s.block)
entry_breaks s latest i e Epoch = not (e.epoch == s.epoch)
entry_breaks s latest i e Position = not (e.position == s.before.count + i)
entry_breaks s latest i e Latest = (e.kind == 2) && not (same_put (put_by e) latest)
entry_breaks s latest i e Version = (e.kind == 1) && not (e.version == latest.version + 1)
entry_breaks s latest i e Writer = (e.kind == 1) && not (writer s.families s.store e)
entry_breaks s latest i e Repeat = false
entry_breaks s latest i e LastTip = false

-- the first fault at place i of what was read there, but for a repeated call
abbrev pub fault_read : Side → Put → ℕ → Result Entry ℕ → Option Found
fault_read s latest i (Ok e) = option_map (λ rule. record { rule = rule; place = i; other = 0 }) (find (entry_breaks s latest i e) rules_of_one)
fault_read s latest i (Err left) = Some (record { rule = Text; place = i; other = 0 })

-- the first fault of the text at place i by itself, where this is the latest put before it
abbrev pub fault_alone : Side → Put → ℕ → List ℕ → Option Found
fault_alone s latest i text = fault_read s latest i (entry_of text)

-- the fault behind so many texts, where this is the latest put of them
abbrev pub fault_behind : Frame → Put → ℕ → Option Found
fault_behind f latest n = found_if (not (same_put latest (put_at f.after))) (record { rule = LastTip; place = n; other = 0 })

-- no text that is an entry has a greater nonce
abbrev pub NoncesWithin : ℕ → List (List ℕ) → Type 0
NoncesWithin top = AllByRecursion (λ text. (e : Entry) → entry_of text ≡ Ok e → e.nonce ≤ top)
