-- One clock more in a listing, and the clocks that are refused.
use Rattle.std.proofs.Common.{◌≡◌, ℕ, zero, suc, ◌+◌, List, ◌++◌, length, take, drop, Some, None, Option, Ok, Err, refl, sym, ap, ◌∙◌, append_assoc, append-nil, add-zero, add-suc}
use Rattle.std.proofs.lemmas.List.{take_at}
use Rattle.std.specs.Io.KnownBytes.{Appends}
use Rattle.stepper.specs.Step.{Setting}
use Rattle.pipeline.specs.Calls.{answered, clock_refusal, unless_refused, Clocks}
use Rattle.pipeline.specs.Clock.{Machine, clocked}
use Rattle.pipeline.specs.declared.calls.Refusal.{Refusal}
use Rattle.pipeline.specs.declared.clock.Tick.{Tick}
use Rattle.report.specs.Buffer.{BeginsWith}
use Rattle.report.specs.ListedClock.{line_after}
use Rattle.console.specs.Listing.{after_calls, line_unless, listing}

-- texts written one behind the other
pub one_more : (o p q : Option (List ℕ)) (s t : List ℕ) → Appends o p s → Appends p q t → Appends o q (s ++ t)
one_more None p q s t a b = tt
one_more (Some xs) None q s t a b = absurd a
one_more (Some xs) (Some ys) None s t a b = absurd b
one_more (Some xs) (Some ys) (Some zs) s t a b = b ∙ ap (λ (l : List ℕ). l ++ t) a ∙ append_assoc xs s t

-- the text that stands at the front of a buffer
front : (text before after : List ℕ) (count : ℕ) → BeginsWith text count before after → take count after ≡ text
front text before after count b = ap (take count) b.bytes ∙ take_at text (drop (length text) before) count (sym b.counted)

module _ (s : Setting) where
  line_made : (m after : Machine) (tick : Tick) (r : Option Refusal) → Ok tick ≡ answered s r m → after ≡ unless_refused s r m (clocked s m).machine → line_after after.core tick ≡ line_unless s r m
  line_made m after tick (Some why) e goes = cc
  line_made m after tick None e goes =
      let handed : tick.handed ≡ (clocked s m).handed = cc in
      rw (goes, handed)

  -- a clock that is made
  pub made :
      (m now after : Machine) (n count : ℕ) (tick : Tick) (before buffer : List ℕ)
      → now ≡ after_calls s m n → Clocks s now (Ok tick) after → BeginsWith (line_after after.core tick) count before buffer
      → (take count buffer ≡ line_unless s (clock_refusal (after_calls s m n).core) (after_calls s m n)) × (after ≡ after_calls s m (suc n))
  made m now after n count tick before buffer e c b =
      let line = front (line_after after.core tick) before buffer count b ∙ line_made now after tick (clock_refusal now.core) c.answers c.goes in (
        line ∙ ap (λ (x : Machine). line_unless s (clock_refusal x.core) x) e,
        c.goes ∙ ap (λ (x : Machine). unless_refused s (clock_refusal x.core) x (clocked s x).machine) e,
      )

  refused_by : (m : Machine) (why : Refusal) (r : Option Refusal) → Err why ≡ answered s r m → r ≡ Some why
  refused_by m why (Some other) e = cc
  refused_by m why None e = cc

  stays : (m : Machine) (why : Refusal) (n k : ℕ) → clock_refusal (after_calls s m n).core ≡ Some why → (after_calls s m (n + k) ≡ after_calls s m n) × (listing s m (n + k) ≡ listing s m n)
  stays m why n zero h = rw add-zero (refl, refl)
  stays m why n (suc k) h =
      let p = stays m why n k h in
      let r : clock_refusal (after_calls s m (n + k)).core ≡ Some why = ap (λ (x : Machine). clock_refusal x.core) p.0 ∙ h in
      rw (add-suc, r) (p.0, append-nil _ ∙ p.1)

  -- a clock that is refused, and all after it
  pub refused :
      (m now after : Machine) (n k : ℕ) (why : Refusal)
      → now ≡ after_calls s m n → Clocks s now (Err why) after
      → (after ≡ after_calls s m (n + k)) × (listing s m (n + k) ≡ listing s m n)
  refused m now after n k why e c =
      let r = refused_by now why (clock_refusal now.core) c.answers in
      let h : clock_refusal (after_calls s m n).core ≡ Some why = ap (λ (x : Machine). clock_refusal x.core) (sym e) ∙ r in
      let same : after ≡ now = c.goes ∙ ap (λ o. unless_refused s o now (clocked s now).machine) r in
      let p = stays m why n k h in
      (same ∙ e ∙ sym p.0, p.1)
