-- Items that are written.
use Rattle.std.proofs.Common.{◌≡◌, refl, sym, subst, ◌∙◌, ap, ℕ, ◌≤◌, ◌<◌, List, [], ◌∷◌, ◌++◌, length, Bool, true, false}
use Rattle.std.specs.Prelude.{◌&&◌, nat_le, cond}
use Rattle.std.proofs.lemmas.Bool.{leb-true, le-leb, lt-leb}
use Rattle.std.proofs.lemmas.List.{append_assoc, append-nil}
use Rattle.px_entry.specs.declared.derivations.Derivation.{Derivation}
use Rattle.px_entry.specs.declared.tables.Table.{Table}
use Rattle.px_callgraph.specs.JobTree.{JobTree}
use Rattle.px_frames.specs.Frames.{frame_of, most_bytes}
use Rattle.px_wire.specs.Messages.{MessageTree, message_bytes, request, reply, IsMessage}
use Rattle.px_keep.specs.Items.{KeptItem, AreItems, items_bytes}
use Rattle.px_keep.specs.Writing.{item, with_room, items_for, IsPut}

-- ---- room

abbrev by_room : List ℕ → List ℕ → Bool → Bool → List KeptItem
by_room asked given a b = cond (a && b) (item asked given ∷ []) []

room_is : (asked given : List ℕ) (a b : Bool) → nat_le (length asked) most_bytes ≡ a → nat_le (length given) most_bytes ≡ b → with_room asked given ≡ by_room asked given a b
room_is asked given a b e f = ap (λ x. by_room asked given x (nat_le (length given) most_bytes)) e ∙ ap (by_room asked given a) f

both : (asked given : List ℕ) → length asked ≤ most_bytes → length given ≤ most_bytes → with_room asked given ≡ item asked given ∷ []
both asked given short short' = room_is asked given true true (le-leb (length asked) most_bytes short) (le-leb (length given) most_bytes short')

no_first : (asked given : List ℕ) → most_bytes < length asked → with_room asked given ≡ []
no_first asked given long = room_is asked given false (nat_le (length given) most_bytes) (lt-leb (length asked) most_bytes long) refl

no_second : (asked given : List ℕ) → length asked ≤ most_bytes → most_bytes < length given → with_room asked given ≡ []
no_second asked given short long = room_is asked given true false (le-leb (length asked) most_bytes short) (lt-leb (length given) most_bytes long)

-- ---- bytes

pub both_put : (old mid new first second asked given : List ℕ) → first ≡ frame_of asked → second ≡ frame_of given → length asked ≤ most_bytes → length given ≤ most_bytes → mid ≡ old ++ first → new ≡ mid ++ second →
    new ≡ old ++ items_bytes (with_room asked given)
both_put old mid new first second asked given is is' short short' put put' =
    put' ∙ ap (λ l. l ++ second) put ∙ append_assoc old first second ∙ ap (λ l. old ++ (l ++ second)) is ∙ ap (λ l. old ++ (frame_of asked ++ l)) is'
    ∙ ap (λ l. old ++ l) (sym (append-nil (frame_of asked ++ frame_of given))) ∙ ap (λ xs. old ++ items_bytes xs) (sym (both asked given short short'))

none_put : (old asked given : List ℕ) → with_room asked given ≡ [] → old ≡ old ++ items_bytes (with_room asked given)
none_put old asked given none = sym (append-nil old) ∙ ap (λ xs. old ++ items_bytes xs) (sym none)

pub first_long : (old asked given : List ℕ) → most_bytes < length asked → old ≡ old ++ items_bytes (with_room asked given)
first_long old asked given long = none_put old asked given (no_first asked given long)

pub second_long : (old asked given : List ℕ) → length asked ≤ most_bytes → most_bytes < length given → old ≡ old ++ items_bytes (with_room asked given)
second_long old asked given short long = none_put old asked given (no_second asked given short long)

-- ---- the item of a job

pub items_of_job : (j : JobTree) (t : Table) (ds : List Derivation) → j.ticket ≡ 0 → IsMessage (request j) → IsMessage (reply 0 j.kinds t ds) → AreItems (items_for j t ds)
items_of_job j t ds ticket asks gives = by (nat_le (length (message_bytes (request j))) most_bytes) (nat_le (length (message_bytes (reply 0 j.kinds t ds))) most_bytes) refl refl
  where
    by : (a b : Bool) → nat_le (length (message_bytes (request j))) most_bytes ≡ a → nat_le (length (message_bytes (reply 0 j.kinds t ds))) most_bytes ≡ b →
        AreItems (by_room (message_bytes (request j)) (message_bytes (reply 0 j.kinds t ds)) a b)
    by false b e f = tt
    by true false e f = tt
    by true true e f = (
      record {
        asked_short = leb-true (length (message_bytes (request j))) most_bytes e;
        job = j;
        asks = (refl, asks);
        asked_ticket = ticket;
        given_short = leb-true (length (message_bytes (reply 0 j.kinds t ds))) most_bytes f;
        kinds = j.kinds;
        table = t;
        derivations = ds;
        gives = (refl, gives);
      },
      tt,
    )

-- what is written of a job, where the reply gives this table and these derivations
pub is_put : (j : JobTree) (t : Table) (ds : List Derivation) (m : MessageTree) (old new asked given : List ℕ) → j.ticket ≡ 0 → IsMessage (request j) → IsMessage m → m ≡ reply 0 j.kinds t ds →
    asked ≡ message_bytes (request j) → given ≡ message_bytes m → new ≡ old ++ items_bytes (with_room asked given) → IsPut j t ds old new
is_put j t ds m old new asked given ticket asks gives same a g put = record {
  asks = asks;
  gives = subst IsMessage same gives;
  items = items_of_job j t ds ticket asks (subst IsMessage same gives);
  bytes =
      put ∙ ap (λ x. old ++ items_bytes (with_room x given)) a
      ∙ ap (λ y. old ++ items_bytes (with_room (message_bytes (request j)) y)) (g ∙ ap message_bytes same);
}
