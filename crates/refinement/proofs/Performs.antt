-- Calls that are performed for a client, one by one and as a list. Assumes nothing.
use Rattle.std.proofs.Common.{◌≡◌, ℕ, ◌+◌, ◌<◌, List, [], ◌∷◌, ◌++◌, length, get_or, take, sym, refl, ap, ◌∙◌, subst, append_assoc, append-nil}
use Rattle.std.proofs.lemmas.List.{flat_map_more, map_push, take_more}
use Rattle.memory.specs.Meaning.{Words}
use Rattle.stepper.specs.Step.{Setting}
use Rattle.pipeline.specs.Clock.{Machine, machine, reset}
use Rattle.pipeline.specs.declared.clock.Handed.{Handed}
use Rattle.refinement.specs.CallLists.{Made, Promised, handed_in, Leads, nothing_made, one_more}
use Rattle.refinement.specs.Lateness.{RunsLateBeside}
use Rattle.refinement.specs.Performing.{asked_by, told_by, Performed, AllPerformed, GivenUp}
use Rattle.refinement.specs.declared.perform.Answer.{Answer}
use Rattle.refinement.specs.declared.perform.Call.{Call}
use Rattle.refinement.proofs.CallsLate.{calls_run_late}

module _ (s : Setting) (before after : Machine) where
  pub performed : (made : Made) (there there' : List Handed) → there' ≡ there ++ handed_in made → Promised s before made after → Performed s before (asked_by made) (told_by made) there there' after
  performed made there there' e p = record { made = made; asked = refl; told = refl; handed = e; promised = p }

  -- a call that hands out nothing
  pub nothing_out : (made : Made) (there there' : List Handed) → handed_in made ≡ [] → there' ≡ there → Promised s before made after → Performed s before (asked_by made) (told_by made) there there' after
  nothing_out made there there' e same p = performed made there there' (same ∙ sym (append-nil there) ∙ ap (λ x. there ++ x) (sym e)) p

  pub given_up : (made : Made) → Promised s before made after → GivenUp s before after
  given_up made p = record { made = made ∷ []; leads = one_more made nothing_made p }

pub not_begun : (s : Setting) (before : Machine) → GivenUp s before before
not_begun s before = record { made = []; leads = nothing_made }

leads_through : (s : Setting) (start between : Machine) (first : List Made) → Leads s start first between → {made : List Made} {after : Machine} → Leads s between made after → Leads s start (first ++ made) after
leads_through s start between first p nothing_made = subst (λ l. Leads s start l between) (sym (append-nil first)) p
leads_through s start between first p (one_more {made = made} {after = after} call q r) =
    subst (λ l. Leads s start l after) (append_assoc first made (call ∷ [])) (one_more call (leads_through s start between first p q) r)

module _ (s : Setting) (start : Machine) where
  pub none_yet : AllPerformed s start [] [] [] start
  none_yet = record { made = []; asked = refl; told = refl; handed_out = refl; leads = nothing_made }

  pub one_performed : (calls : List Call) (answers : List Answer) (there there' : List Handed) (call : Call) (answer : Answer) (before after : Machine) → AllPerformed s start calls answers there before → Performed s before call answer there there' after → AllPerformed s start (calls ++ call ∷ []) (answers ++ answer ∷ []) there' after
  one_performed calls answers there there' call answer before after p q =
      record {
        made = p.made ++ q.made ∷ [];
        asked = map_push asked_by p.made q.made ∙ (λ i. p.asked i ++ q.asked i ∷ []);
        told = map_push told_by p.made q.made ∙ (λ i. p.told i ++ q.told i ∷ []);
        handed_out = sym (flat_map_more handed_in [] p.made q.made) ∙ ap (λ l. l ++ handed_in q.made) p.handed_out ∙ sym q.handed;
        leads = one_more q.made p.leads q.promised;
      }

  pub given_up_then : (calls : List Call) (answers : List Answer) (there : List Handed) (before after : Machine) → AllPerformed s start calls answers there before → GivenUp s before after → GivenUp s start after
  given_up_then calls answers there before after p q =
      record { made = p.made ++ q.made; leads = leads_through s start before p.made p.leads q.leads }

  pub given_up_here : (calls : List Call) (answers : List Answer) (there : List Handed) (after : Machine) → AllPerformed s start calls answers there after → GivenUp s start after
  given_up_here calls answers there after p = record { made = p.made; leads = p.leads }

-- one more of a list of calls, at a turn where the setting is that of the start
pub one_turn : (s t : Setting) (start : Machine) (calls : List Call) (i : ℕ) (call : Call) (answers : List Answer) (there there' : List Handed) (answer : Answer) (before after : Machine) → i < length calls → s ≡ t → AllPerformed t start (take i calls) answers there before → Performed s before (get_or calls i call) answer there there' after → AllPerformed t start (take (i + 1) calls) (answers ++ answer ∷ []) there' after
one_turn s t start calls i call answers there there' answer before after h same sofar one =
    subst (λ l. AllPerformed t start l (answers ++ answer ∷ []) there' after) (sym (take_more calls i call h))
    (one_performed t start (take i calls) answers there there' (get_or calls i call) answer before after sofar (subst (λ u. Performed u before (get_or calls i call) answer there there' after) same one))

pub all_late : (s : Setting) (words : Words) (calls : List Call) (answers : List Answer) (there : List Handed) (after : Machine) → AllPerformed s (machine reset words) calls answers there after → RunsLateBeside s words after there
all_late s words calls answers there after p = subst (RunsLateBeside s words after) p.handed_out (calls_run_late s words p.made after p.leads)
