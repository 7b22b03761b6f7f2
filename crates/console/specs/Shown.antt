-- How an image is shown.
use Rattle.std.specs.Prelude.{◌≡◌, ℕ, List, ◌++◌, codes}
use Rattle.std.specs.Fn.{Once}
use denote.Ref.{Bor, MutBor}
use Rattle.image.specs.Images.{image_words}
use Rattle.image.specs.Refusals.{refusal_text}
use Rattle.image.specs.declared.image.Image.{Image}
use Rattle.image.specs.declared.refusal.Refusal.{Refusal}

-- f at a writer and an image of these words may give r and leave the writer so
pub record ShownBy {F W R : Type 0} (g : Once F (MutBor W × (Bor Image × Unit {0})) (R × (MutBor W × Unit {0}))) (f : F) (words : List ℕ) (before : W) (r : R) (after : W) : Type 0 where
  pub image : Bor Image
  pub lent : MutBor W
  pub left : MutBor W
  pub met : g.post f (lent, (image, tt)) (r, (left, tt))
  pub has : image_words image.now ≡ words
  pub begins : lent.now ≡ before
  pub ends : left.now ≡ after

-- the line of a refusal
abbrev pub refusal_line : Refusal → List ℕ
refusal_line refusal = refusal_text refusal ++ codes "\n"
