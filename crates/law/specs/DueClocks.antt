-- The clock law worked out: for each event of a routine, the clock in which the core hands it out, and the clocks lost on
-- the way to it.
use Rattle.std.specs.Prelude.{◌≡◌, ℕ, ◌+◌, ◌*◌, ◌<◌, List, length, take, Some, None, count_by, Option, slice_index_or}
use Rattle.stepper.specs.declared.event.Event.{Event}
use Rattle.refinement.specs.ClockLaw.{taken_branch, done_write_15, skipped_write_15, feeds, bit, load_uses, but_last, clock_of}
use Rattle.law.specs.declared.due.Due.{Due}
use Rattle.law.specs.declared.due.Lost.{Lost}

-- the clocks lost until the last of these events is handed out, by what cost them
abbrev pub lost_of : List Event → Lost
lost_of es =
    record {
      stalls = load_uses es;
      branches = 2 * count_by taken_branch (but_last es);
      done_writes = 4 * count_by done_write_15 (but_last es);
      skipped_writes = 2 * count_by skipped_write_15 (but_last es);
    }

abbrev pub due_of : List Event → Due
due_of es = record { clock = clock_of es; lost = lost_of es }

-- before any event
abbrev pub nothing_due : Due
nothing_due = record { clock = 4; lost = record { stalls = 0; branches = 0; done_writes = 0; skipped_writes = 0 } }

-- a table with a line for each event, each worked out from the events up to it
pub record DueTable (events : List Event) (table : List Due) : Type 0 where
  pub lines : length table ≡ length events
  pub each : (k : ℕ) → k < length events → slice_index_or table k nothing_due ≡ due_of (take (k + 1) events)

-- one event further, behind another
abbrev pub further : Option Event → Event → Due → Due
further None next due = record { clock = due.clock + 1; lost = due.lost }
further (Some event) next due =
    record {
      clock = due.clock + (1 + bit (feeds event next) + 2 * bit (taken_branch event) + 4 * bit (done_write_15 event) + 2 * bit (skipped_write_15 event));
      lost =
          record {
            stalls = due.lost.stalls + bit (feeds event next);
            branches = due.lost.branches + 2 * bit (taken_branch event);
            done_writes = due.lost.done_writes + 4 * bit (done_write_15 event);
            skipped_writes = due.lost.skipped_writes + 2 * bit (skipped_write_15 event);
          };
    }
