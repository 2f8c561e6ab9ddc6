use Rattle.std.proofs.Common.{◌≡◌, ◌≤◌, ℕ, List, [], ◌∷◌, ◌++◌, Option, Some, None, Result, Ok, Err, sym, ap, ◌∙◌, append_assoc, arith}
use Rattle.std.specs.Prelude.{IfOk, IfErr}
use Rattle.atomic_table.specs.Table.{State}
use Rattle.modes_core.specs.declared.modes.Mode.{Mode}
use Rattle.modes_core.specs.declared.tags.Tag.{Tag}
use Rattle.modes_core.specs.declared.refusals.Refusal.{Refusal}
use Rattle.modes_core.specs.declared.refusals.Refusal.TheVariants.{Conflict, SimpleDeadlock, NoMemory}
use Rattle.modes_core.specs.Tag.{partition_of}
use Rattle.modes_core.specs.Sessions.{most_sessions}
use Rattle.lock_table.specs.declared.answering.Answer.{Answer}
use Rattle.lock_table.specs.declared.answering.Answer.TheVariants as answer
use Rattle.lock_table.specs.declared.request.Request.{Request}
use Rattle.lock_table.specs.Content.{Content}
use Rattle.wait_queue.specs.declared.requests.Kind.{Kind}
use Rattle.wait_queue.specs.declared.requests.Kind.TheVariants.{Conditional, Waiting}
use Rattle.wait_queue.specs.declared.requests.Decision.{Decision}
use Rattle.wait_queue.specs.declared.requests.Decision.TheVariants as decision
use Rattle.wait_queue.specs.Decide.{AnswerIs, IsDecided, RefusedFor}
use Rattle.lock_world.specs.Account.{Account}
use Rattle.lock_world.specs.Happens.{Runs}
use Rattle.lock_world.specs.SafeWorld.{SafeWorld}
use Rattle.lock_world.specs.World.{World, TraceEntry, Took, Episode, opening}
use Rattle.lock_world.proofs.Lemmas.SafeWorld.Opening.{opening-safe}
use Rattle.one_list.specs.OneList.{list_of}
use Rattle.one_list.specs.Requests.{IsCleared, AnswersAlike, InSomeWorld}
use Rattle.one_list.proofs.Lemmas.Requests.{taken-in_world}
use Rattle.shared_rule.specs.declared.rule.TableSizes.{TableSizes}
use Rattle.shared_rule.specs.declared.history.History.{History}
use Rattle.shared_rule.specs.declared.history.View.{View}
use Rattle.shared_rule.specs.declared.kept.Kept.{Kept}
use Rattle.shared_rule.specs.Boards.{Seated}
use Rattle.shared_rule.specs.History.{told}
use Rattle.shared_rule.specs.Ruled.{Ruled, StandsAtSeat}
use Rattle.shared_rule.proofs.Lemmas.Told.{leads-runs}
use Rattle.fast_path.specs.declared.use_counts.UseCounts.{UseCounts}
use Rattle.lock_manager.specs.ListAnswers.{IsAnsweredSo}
use Rattle.lock_manager.specs.Requests.{Decides}

-- What the content taken answered to a request, the list answers.

-- An answer of the content is one of the list, of either kind of request,
answered-alike : (kind : Kind) (w : World) (s : ℕ) (t : Tag) (m : Mode) (taken : Content) (its : Answer) → AnswersAlike w s t m taken → IsCleared w s t m
    → AnswerIs kind taken s t m its → AnswerIs kind (list_of w) s t m its
answered-alike Conditional w s t m taken answer.Granted alike cleared is = alike.clashes cleared None is
answered-alike Conditional w s t m taken (answer.Queued place) alike cleared is = absurd is
answered-alike Conditional w s t m taken (answer.SimpleDeadlock other) alike cleared is = absurd is
answered-alike Waiting w s t m taken its alike cleared is = alike.answers cleared its is

-- and so is a refusal.
refused-alike : (kind : Kind) (w : World) (s : ℕ) (t : Tag) (m : Mode) (taken : Content) (refusal : Refusal) → AnswersAlike w s t m taken → IsCleared w s t m
    → RefusedFor kind taken s t m refusal → RefusedFor kind (list_of w) s t m refusal
refused-alike Conditional w s t m taken (Conflict other its how) alike cleared is = alike.clashes cleared (Some (record { session = other; mode = its; how = how })) is
refused-alike Waiting w s t m taken (SimpleDeadlock other) alike cleared is = alike.answers cleared (answer.SimpleDeadlock other) is
refused-alike Conditional w s t m taken NoMemory alike cleared is = tt
refused-alike Waiting w s t m taken NoMemory alike cleared is = tt
refused-alike kind w s t m taken refusal alike cleared is = absurd is

pub answered : (kind : Kind) (w : World) (s : ℕ) (t : Tag) (m : Mode) (taken put : Content) (result : Result Decision Refusal) → AnswersAlike w s t m taken → IsCleared w s t m
    → IfOk result (λ its. IsDecided kind taken s t m its put) → IfErr result (RefusedFor kind taken s t m) → IsAnsweredSo kind (list_of w) s t m result
answered kind w s t m taken put (Ok decision.Granted) alike cleared decided refused = answered-alike kind w s t m taken answer.Granted alike cleared decided.0
answered kind w s t m taken put (Ok decision.Queued) alike cleared decided refused =
    (decided.0, answered-alike kind w s t m taken (answer.Queued decided.0) alike cleared decided.1)
answered kind w s t m taken put (Err refusal) alike cleared decided refused = refused-alike kind w s t m taken refusal alike cleared refused

-- A session whose account has gone on from a request that was decided in the table, where the table keeps its
-- rule.
module _ {T : Type 0} (content : T → Content) (begun : T → Option Request) (sizes : TableSizes) (state : State (Kept T) (View T)) (rule : Ruled content begun sizes state)
    (history : History T) (stands : StandsAtSeat state.views history) (kind : Kind) (seat : Seated) (a b : Account) (uses left : UseCounts) (tag : Tag) (mode : Mode)
    (result : Result Decision Refusal) (same : seat.number ≡ history.number) (decides : Decides kind seat a uses tag mode result b left) (after : List TraceEntry)
    (gone_on : (told content history.number history.marks).trace ≡ b.trace ++ after) where
  pub trace-decided : rule.world.sessions.trace seat.number
      ≡ (a.trace ++ decides.steps) ++ Took (partition_of tag) decides.taken ∷ (Episode (partition_of tag) decides.taken decides.put ∷ after)
  trace-decided =
      ap (λ k. rule.world.sessions.trace k) same
      ∙ sym (ap (λ (z : Account). z.trace) (rule.seats.history stands.seat stands.place stands.view history stands.there stands.stands).account) ∙ gone_on
      ∙ ap (λ (t : List TraceEntry). t ++ after) decides.trace
      ∙ append_assoc (a.trace ++ decides.steps) (Took (partition_of tag) decides.taken ∷ Episode (partition_of tag) decides.taken decides.put ∷ []) after

  -- In a World on the way, in which it had made just the steps before the episode, the partition had the
  -- content that was taken.
  pub decided-in_world : (P : World → Type 0) → ((w : World) → SafeWorld w → decides.taken ≡ w.contents.now (partition_of tag) → P w)
      → (run : Runs (opening sizes.sessions sizes.groups) rule.events rule.world)
      × InSomeWorld (opening sizes.sessions sizes.groups ∷ run.0) seat.number (a.trace ++ decides.steps) P
  decided-in_world P holds =
      let few : sizes.sessions ≤ most_sessions = rule.shown.few in
      let run = leads-runs (opening sizes.sessions sizes.groups) rule.events rule.world rule.run in (
        run,
        taken-in_world sizes.sessions sizes.groups rule.events run.0 seat.number (partition_of tag) (a.trace ++ decides.steps)
            (Episode (partition_of tag) decides.taken decides.put ∷ after) decides.taken P (opening-safe sizes.sessions sizes.groups (omega (arith, few))) run.1
            (ap (λ (w : World). w.sessions.trace seat.number) (sym run.2) ∙ trace-decided) holds,
      )
