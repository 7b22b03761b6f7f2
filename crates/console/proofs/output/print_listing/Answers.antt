use Rattle.std.proofs.Common.{◌≡◌, ◌+◌, ◌-◌, subst, add-one, arith}
use Rattle.std.specs.Io.KnownBytes.{Appends}
use Rattle.memory.specs.Keeping.{both_change}
use Rattle.stepper.specs.Memories.{setting_of, same_setting}
use Rattle.pipeline.specs.Clock.{machine}
use Rattle.console.specs.Listing.{after_calls, listing}
use Rattle.console.proofs.Listing.{one_more, made, refused}
use Rattle.console.proofs.output.print_listing.Goals as goal

pub loop-clock-preserved : goal.loop-clock-preserved
loop-clock-preserved g c =
    let s = setting_of g.S.Store g.M.Store g.M.Memory c.args.store.now c.args.memory.now in
    let m = machine c.args.core.now (g.M.Store.word_at c.args.memory.now) in
    let now = machine c.loop-clock.core (g.M.Store.word_at c.loop-clock.memory) in
    let after = machine c.clock_line.new.core (g.M.Store.word_at c.clock_line.new.memory) in
    let inv = c.loop-clock.invariant in
    let k = c.in-Ok.ensures in
    let listed = c.in-Ok.listed in
    let same = same_setting g.S.Store g.M.Store g.M.Memory c.args.store.now c.args.memory.now c.loop-clock.memory inv.rest in
    let next = made s m now after c.loop-clock.clock listed.length listed.tick c.loop-clock.buffer c.clock_line.new.buffer inv.goes (rw same at k.clock) k.line in
    record {
      lines = rw add-one (one_more _ _ _ _ _ inv.lines (rw next.0 at c.in_ok-write_all.ensures.bytes));
      goes = rw add-one next.1;
      rest = both_change g.M.Store g.M.Memory inv.rest k.rest;
    }

pub returns-in_default : goal.returns-in_default
returns-in_default g c =
    let s = setting_of g.S.Store g.M.Store g.M.Memory c.args.store.now c.args.memory.now in
    let m = machine c.args.core.now (g.M.Store.word_at c.args.memory.now) in
    let now = machine c.loop-clock.core (g.M.Store.word_at c.loop-clock.memory) in
    let after = machine c.clock_line.new.core (g.M.Store.word_at c.clock_line.new.memory) in
    let inv = c.loop-clock.invariant in
    let k = c.in_default.ensures in
    let same = same_setting g.S.Store g.M.Store g.M.Memory c.args.store.now c.args.memory.now c.loop-clock.memory inv.rest in
    let n = c.loop-clock.clock in
    let to_the_limit : n + (c.args.limit - n) ≡ c.args.limit = omega arith in
    let end = refused s m now after n (c.args.limit - n) c.in_default.field-0 inv.goes (rw same at k.clock) in
    record {
      lines = subst (λ n. Appends (g.W.Write.contents c.args.out.now) (g.W.Write.contents c.loop-clock.out) (listing s m n)) to_the_limit (rw end.1 inv.lines);
      clocks = subst (λ n. after ≡ after_calls s m n) to_the_limit end.0;
      rest = both_change g.M.Store g.M.Memory inv.rest k.rest;
    }
