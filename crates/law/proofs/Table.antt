-- The table of due clocks, one line at a time. Assumes nothing.
use Rattle.std.proofs.Common.{◌≡◌, ℕ, ◌+◌, ◌*◌, ◌<◌, ◌≤◌, Bool, true, false, List, [], ◌∷◌, ◌++◌, length, get_or, take, Some, None, count_by, Option, sym, ap, ◌∙◌, subst, ⊎_elim, mul-add, arith}
use Rattle.std.proofs.lemmas.List.{take_more, length_push, get_or_push, get_or_append_left}
use Rattle.std.proofs.lemmas.Bool.{cases_lt}
use Rattle.stepper.specs.declared.event.Event.{Event}
use Rattle.refinement.specs.ClockLaw.{bit, but_last, taken_branch, done_write_15, skipped_write_15, feeds}
use Rattle.refinement.proofs.Counting.{clock_push, uses_push, count_push}
use Rattle.law.specs.DueClocks.{due_of, nothing_due, further}
use Rattle.law.specs.declared.due.Due.{Due}

-- the last event of a list, if it has one
abbrev pub EndsWith : List Event → Option Event → Type 0
EndsWith es None = es ≡ []
EndsWith es (Some e) = (front : List Event) × (es ≡ front ++ e ∷ [])

times : (n : ℕ) (p : Event → Bool) (front : List Event) (e next : Event) → n * count_by p (but_last ((front ++ e ∷ []) ++ next ∷ [])) ≡ n * count_by p (but_last (front ++ e ∷ [])) + n * bit (p e)
times n p front e next = ap (λ k. n * k) (count_push p front e next) ∙ mul-add n (count_by p (but_last (front ++ e ∷ []))) (bit (p e))

due_push : (front : List Event) (e next : Event) → due_of ((front ++ e ∷ []) ++ next ∷ []) ≡ further (Some e) next (due_of (front ++ e ∷ []))
due_push front e next =
    λ i. record {
      clock = clock_push front e next i;
      lost = record {
        stalls = uses_push front e next i;
        branches = times 2 taken_branch front e next i;
        done_writes = times 4 done_write_15 front e next i;
        skipped_writes = times 2 skipped_write_15 front e next i;
      };
    }

due_further : (es : List Event) (last : Option Event) (next : Event) → EndsWith es last → due_of (es ++ next ∷ []) ≡ further last next (due_of es)
due_further es None next e = ap (λ l. due_of (l ++ next ∷ [])) e ∙ sym (ap (λ l. further None next (due_of l)) e)
due_further es (Some last) next p = ap (λ l. due_of (l ++ next ∷ [])) p.1 ∙ due_push p.0 last next ∙ sym (ap (λ l. further (Some last) next (due_of l)) p.1)

-- no figure grows by more than ten an event
pub record Small (i : ℕ) (due : Due) : Type 0 where
  pub clock : due.clock ≤ 4 + 10 * i
  pub stalls : due.lost.stalls ≤ 10 * i
  pub branches : due.lost.branches ≤ 10 * i
  pub done_writes : due.lost.done_writes ≤ 10 * i
  pub skipped_writes : due.lost.skipped_writes ≤ 10 * i

bit_one : (b : Bool) → bit b ≤ 1
bit_one true = omega arith
bit_one false = omega arith

small_further : (i : ℕ) (last : Option Event) (next : Event) (due : Due) → Small i due → Small (i + 1) (further last next due)
small_further i None next due h =
    record { clock = omega (arith, h.clock); stalls = omega (arith, h.stalls); branches = omega (arith, h.branches); done_writes = omega (arith, h.done_writes); skipped_writes = omega (arith, h.skipped_writes) }
small_further i (Some e) next due h =
    let a = bit_one (feeds e next) in
    let b = bit_one (taken_branch e) in
    let c = bit_one (done_write_15 e) in
    let d = bit_one (skipped_write_15 e) in
    record { clock = omega (arith, h.clock, a, b, c, d); stalls = omega (arith, h.stalls, a); branches = omega (arith, h.branches, b); done_writes = omega (arith, h.done_writes, c); skipped_writes = omega (arith, h.skipped_writes, d) }

module _ (events : List Event) where
  -- the table so far
  pub record Sofar (i : ℕ) (table : List Due) (due : Due) (last : Option Event) : Type 0 where
    pub ends : EndsWith (take i events) last
    pub stands : due ≡ due_of (take i events)
    pub lines : length table ≡ i
    pub each : (k : ℕ) → k < i → get_or table k nothing_due ≡ due_of (take (k + 1) events)
    pub small : Small i due

  pub one_line : (i : ℕ) (table table' : List Due) (due due' : Due) (last : Option Event) (event : Event) → i < length events → event ≡ get_or events i event → Sofar i table due last → due' ≡ further last event due → table' ≡ table ++ due' ∷ [] → Sofar (i + 1) table' due' (Some event)
  one_line i table table' due due' last event h at st pd pt =
      let more : take (i + 1) events ≡ take i events ++ event ∷ [] = take_more events i event h ∙ ap (λ e. take i events ++ e ∷ []) (sym at) in
      let now : due' ≡ due_of (take (i + 1) events) = pd ∙ ap (further last event) st.stands ∙ sym (due_further (take i events) last event st.ends) ∙ ap due_of (sym more) in
      record {
        ends = (take i events, more);
        stands = now;
        lines = ap length pt ∙ length_push table due' ∙ ap (λ n. n + 1) st.lines;
        each = λ k q. ap (λ t. get_or t k nothing_due) pt ∙ ⊎_elim
            (λ lt. get_or_append_left table (due' ∷ []) nothing_due k (omega (arith, st.lines)) ∙ st.each k lt)
            (λ ge. let same : k ≡ i = omega arith in get_or_push table due' nothing_due k (st.lines ∙ sym same) ∙ now ∙ ap (λ j. due_of (take (j + 1) events)) (sym same))
            (cases_lt k i);
        small = subst (Small (i + 1)) (sym pd) (small_further i last event due st.small);
      }
