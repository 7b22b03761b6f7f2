-- A program store and a data memory of any make, as a routine meets them.
use Rattle.std.specs.Prelude.{◌≡◌}
use Rattle.memory.specs.Keeping.{OnlyWordsChange}
use Rattle.memory.specs.declared.store.Store.{Ghosts as StoreOf}
use Rattle.memory.specs.declared.store.Memory.{Ghosts as MemoryOf}
use Rattle.stepper.specs.Step.{Setting, setting}

module _ {S M : Type 0} (s : StoreOf S) (m : StoreOf M) (w : MemoryOf M) where
  -- what they set for the routine
  abbrev pub setting_of : S → M → Setting
  setting_of store memory = setting (s.word_at store) (s.tag_at store) (m.tag_at memory) (w.writable_at memory)

  -- where words alone change, the setting stays
  pub same_setting : (store : S) (before after : M) → OnlyWordsChange m w before after → setting_of store after ≡ setting_of store before
  same_setting store before after h = λ i. setting (s.word_at store) (s.tag_at store) (h.tags i) (h.writability i)
