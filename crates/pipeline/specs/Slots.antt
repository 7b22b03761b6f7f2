-- What a clock does to a slot.
use Rattle.std.specs.Prelude.{Some, None, Option}
use Rattle.pipeline.specs.declared.slots.Change.{Change}
use Rattle.pipeline.specs.declared.slots.Change.TheVariants.{Keep, Empty, Fill}

-- a slot of any kind is kept, emptied or filled
abbrev pub changed : {T : Type 0} → Change T → Option T → Option T
changed Keep slot = slot
changed Empty slot = None
changed (Fill content) slot = Some content
