-- What a call that uses a memory leaves alone, whatever the make of the memory.
use Rattle.std.specs.Prelude.{◌≡◌, refl}
use Rattle.std.proofs.Common.{◌∙◌}
use Rattle.memory.specs.declared.store.Store.{Ghosts as StoreOf}
use Rattle.memory.specs.declared.store.Memory.{Ghosts as MemoryOf}

-- no tag changes, nor where the memory may be written: words alone may
pub record OnlyWordsChange {M : Type 0} (store : StoreOf M) (memory : MemoryOf M) (before after : M) : Type 0 where
  pub tags : store.tag_at after ≡ store.tag_at before
  pub writability : memory.writable_at after ≡ memory.writable_at before

module _ {M : Type 0} (store : StoreOf M) (memory : MemoryOf M) where
  -- no call is such a call, and so are two
  pub none_changes : (m : M) → OnlyWordsChange store memory m m
  none_changes m = record { tags = refl; writability = refl }

  pub both_change : {before between after : M} → OnlyWordsChange store memory before between → OnlyWordsChange store memory between after → OnlyWordsChange store memory before after
  both_change p q = record { tags = q.tags ∙ p.tags; writability = q.writability ∙ p.writability }
