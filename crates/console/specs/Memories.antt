-- What a routine does on the memories that the programs make.
use Rattle.std.specs.Prelude.{◌≡◌, ℕ, List, replicate}
use Rattle.std.specs.Fn.{Once}
use denote.Ref.{Bor, MutBor}
use Rattle.memory.specs.Bank.{bank_words, everywhere}
use Rattle.memory.specs.Meaning.{one_tag}
use Rattle.memory.specs.declared.bank.Bank.{Bank}
use Rattle.image.specs.Images.{image_words}
use Rattle.image.specs.Serving.{served}
use Rattle.image.specs.declared.image.Image.{Image}
use Rattle.image.specs.declared.store.ImageStore.{ImageStore}
use Rattle.stepper.specs.Run.{first_events}
use Rattle.stepper.specs.Step.{setting}
use Rattle.stepper.specs.declared.event.Event.{Event}

-- the words of a data memory before a routine runs
abbrev pub zeros : List ℕ
zeros = replicate 1024 0

-- a store of the image, and a data memory of zeros from address 0 on, both under tag 0
pub record MadeFor (image : Image) (store : ImageStore) (memory : Bank) : Type 0 where
  pub serves : store.image.now ≡ image
  pub program_tag : store.tag ≡ 0
  pub base : memory.base ≡ 0
  pub words : memory.words.now ≡ zeros
  pub data_tag : memory.tag ≡ 0

-- f at two such memories may give r
pub record GivenBy {F T : Type 0} (g : Once F (Bor ImageStore × (MutBor Bank × Unit {0})) (T × (MutBor Bank × Unit {0}))) (f : F) (image : Image) (r : T) : Type 0 where
  pub store : Bor ImageStore
  pub lent : MutBor Bank
  pub left : MutBor Bank
  pub met : g.post f (store, (lent, tt)) (r, (left, tt))
  pub made : MadeFor image store.now lent.now

-- the stepper's first events on a store and a data memory
abbrev pub events_on : ImageStore → Bank → ℕ → List Event
events_on store memory limit =
    first_events (setting (served (image_words store.image.now)) (one_tag store.tag) (one_tag memory.tag) everywhere) (bank_words memory.base memory.words.now) limit

-- the same on the two memories made for an image
abbrev pub image_events : Image → ℕ → List Event
image_events image limit =
    first_events (setting (served (image_words image)) (one_tag 0) (one_tag 0) everywhere) (bank_words 0 zeros) limit
