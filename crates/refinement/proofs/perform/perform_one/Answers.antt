use Rattle.std.proofs.Common.{vec_items, refl}
use Rattle.memory.specs.Keeping.{none_changes}
use Rattle.refinement.specs.CallLists.{RegisterMade, FlagsMade, SlotsMade}
use Rattle.refinement.proofs.Performs.{nothing_out}
use Rattle.refinement.proofs.perform.perform_one.Goals as goal

pub returns-in-Register : goal.returns-in-Register
returns-in-Register g c =
    rw c.in-Register.is record {
      call = nothing_out _ _ _ (RegisterMade c.in-Register.number c.register.result) (vec_items c.args.handed.now) _ refl refl (c.register.ensures, refl);
      rest = none_changes g.M.Store g.M.Memory c.args.memory.now;
    }

pub returns-in-Flags : goal.returns-in-Flags
returns-in-Flags g c =
    rw c.in-Flags.is record {
      call = nothing_out _ _ _ (FlagsMade c.flags.result) (vec_items c.args.handed.now) _ refl refl (c.flags.ensures, refl);
      rest = none_changes g.M.Store g.M.Memory c.args.memory.now;
    }

pub returns-in-Slots : goal.returns-in-Slots
returns-in-Slots g c =
    rw c.in-Slots.is record {
      call = nothing_out _ _ _ (SlotsMade c.slots.result) (vec_items c.args.handed.now) _ refl refl (c.slots.ensures, refl);
      rest = none_changes g.M.Store g.M.Memory c.args.memory.now;
    }
