-- What passed in an exchange shows one outcome.
use Rattle.std.proofs.Common.{◌≡◌, inl, inr, refl, sym, ap, subst, ◌∙◌, arith, ℕ, ◌+◌, ◌≤◌, List, [], ◌∷◌, length, Bool, true, false, append-nil}
use Rattle.px_entry.specs.declared.tables.Table.{Table}
use Rattle.px_callgraph.specs.JobTree.{JobTree}
use Rattle.px_frames.specs.Frames.{frame_of, most_bytes, IsPart, IsTooLong}
use Rattle.px_frames.specs.Feeding.{Feeding, holds, refuses}
use Rattle.px_frames.specs.Cutting.{AreFrames}
use Rattle.px_frames.proofs.CutLemmas.{one_cutting, frame_size}
use Rattle.px_pieces.specs.declared.desk.Lost.{Lost}
use Rattle.px_pieces.specs.declared.desk.Lost.TheVariants.{Send, Read, Closed, Frame, Ticket, Kinds, Refused, Large, NoMemory}
use Rattle.px_wire.specs.Messages.{reply}
use Rattle.px_wire.specs.Versions.{SpellsIn}
use Rattle.px_pool.specs.Talks.{Talk, nothing}
use Rattle.px_pool.specs.Outcomes.{request_of, IsUnasked, IsUnanswered, IsGiven, IsAnswered, IsFaultIn, IsCauseOf}
use Rattle.px_pool.specs.Laws.{IsShown, OneOutcome}
use Rattle.px_pool.proofs.FaultLemmas.{one_fault, table_or_fault, one_table}
use Rattle.px_terms.proofs.Tests.{never_both}

-- ---- the bytes that were given

tag_of : Feeding → ℕ
tag_of (holds bytes) = 0
tag_of (refuses n) = 1

whole : (bytes m : List ℕ) → bytes ≡ frame_of m → length m ≤ most_bytes → AreFrames bytes (m ∷ []) (holds [])
whole bytes m is short = (short, [], is ∙ sym (append-nil (frame_of m)), (inl (omega arith), refl))

part_or_whole : (bytes m : List ℕ) → IsPart bytes → bytes ≡ frame_of m → length m ≤ most_bytes → ⊥
part_or_whole bytes m part is short =
    let one = one_cutting bytes [] (m ∷ []) (holds bytes) (holds []) (part, refl) (whole bytes m is short) in
    let clash : 0 ≡ 1 = ap length one.0 in omega (arith, clash)

long_or_whole : (bytes m : List ℕ) (n : ℕ) → IsTooLong bytes n → bytes ≡ frame_of m → length m ≤ most_bytes → ⊥
long_or_whole bytes m n long is short =
    let one = one_cutting bytes [] (m ∷ []) (refuses n) (holds []) long (whole bytes m is short) in
    let clash : 0 ≡ 1 = ap length one.0 in omega (arith, clash)

part_or_long : (bytes : List ℕ) (n : ℕ) → IsPart bytes → IsTooLong bytes n → ⊥
unfolding tag_of
part_or_long bytes n part long =
    let one = one_cutting bytes [] [] (holds bytes) (refuses n) (part, refl) long in
    let clash : 0 ≡ 1 = ap tag_of one.1 in omega (arith, clash)

first_of_list : List ℕ → List (List ℕ) → List ℕ
first_of_list d [] = d
first_of_list d (m ∷ ms) = m

one_message : (bytes m n : List ℕ) → bytes ≡ frame_of m → bytes ≡ frame_of n → length m ≤ most_bytes → length n ≤ most_bytes → m ≡ n
unfolding first_of_list
one_message bytes m n is is' short short' = ap (first_of_list m) (one_cutting bytes (m ∷ []) (n ∷ []) (holds []) (holds []) (whole bytes m is short) (whole bytes n is' short')).0

-- ---- why no whole frame was given

number_of : Bool → ℕ
number_of true = 1
number_of false = 0

abbrev Stops : List ℕ → Bool → Lost → Type 0
Stops bytes e Read = IsPart bytes × (e ≡ false)
Stops bytes e (Closed n) = IsPart bytes × (e ≡ true) × (n ≡ length bytes)
Stops bytes e Frame = (e ≡ false) × ((n : ℕ) × IsTooLong bytes n)
Stops bytes e Send = ⊥
Stops bytes e (Ticket asked given) = ⊥
Stops bytes e Kinds = ⊥
Stops bytes e (Refused entry step) = ⊥
Stops bytes e Large = ⊥
Stops bytes e NoMemory = ⊥

stops_so : (frame : List ℕ) (x : Talk) (why : Lost) → IsShown why → IsUnanswered frame x why → (x.sent ≡ frame) × Stops x.given x.ended why
stops_so frame x Read s (bytes, is, part) = (ap (λ (z : Talk). z.sent) is, (subst IsPart (sym (ap (λ (z : Talk). z.given) is)) part, ap (λ (z : Talk). z.ended) is))
stops_so frame x (Closed n) s (bytes, is, part, many) =
    let given : x.given ≡ bytes = ap (λ (z : Talk). z.given) is in
    (ap (λ (z : Talk). z.sent) is, (subst IsPart (sym given) part, ap (λ (z : Talk). z.ended) is, many ∙ ap length (sym given)))
stops_so frame x Frame s (bytes, is, four, (n, long)) =
    let given : x.given ≡ bytes = ap (λ (z : Talk). z.given) is in
    (ap (λ (z : Talk). z.sent) is, (ap (λ (z : Talk). z.ended) is, (n, subst (λ l. IsTooLong l n) (sym given) long)))
stops_so frame x Send s h = absurd s
stops_so frame x NoMemory s h = absurd s
stops_so frame x (Ticket asked given) s h = absurd h
stops_so frame x Kinds s h = absurd h
stops_so frame x (Refused entry step) s h = absurd h
stops_so frame x Large s h = absurd h

with_read : (bytes : List ℕ) (e : Bool) (other : Lost) → Stops bytes e Read → Stops bytes e other → Read ≡ other
with_read bytes e Read p h = refl
with_read bytes e (Closed n) p h = absurd (never_both e h.1 p.1)
with_read bytes e Frame p (_, (n, long)) = absurd (part_or_long bytes n p.0 long)
with_read bytes e Send p h = absurd h
with_read bytes e (Ticket asked given) p h = absurd h
with_read bytes e Kinds p h = absurd h
with_read bytes e (Refused entry step) p h = absurd h
with_read bytes e Large p h = absurd h
with_read bytes e NoMemory p h = absurd h

with_closed : (bytes : List ℕ) (e : Bool) (n : ℕ) (other : Lost) → Stops bytes e (Closed n) → Stops bytes e other → Closed n ≡ other
with_closed bytes e n Read p h = absurd (never_both e p.1 h.1)
with_closed bytes e n (Closed m) p h = ap Closed (p.2 ∙ sym h.2)
with_closed bytes e n Frame p h = absurd (never_both e p.1 h.0)
with_closed bytes e n Send p h = absurd h
with_closed bytes e n (Ticket asked given) p h = absurd h
with_closed bytes e n Kinds p h = absurd h
with_closed bytes e n (Refused entry step) p h = absurd h
with_closed bytes e n Large p h = absurd h
with_closed bytes e n NoMemory p h = absurd h

with_long : (bytes : List ℕ) (e : Bool) (other : Lost) → Stops bytes e Frame → Stops bytes e other → Frame ≡ other
with_long bytes e Read p h = sym (with_read bytes e Frame h p)
with_long bytes e (Closed n) p h = sym (with_closed bytes e n Frame h p)
with_long bytes e Frame p h = refl
with_long bytes e Send p h = absurd h
with_long bytes e (Ticket asked given) p h = absurd h
with_long bytes e Kinds p h = absurd h
with_long bytes e (Refused entry step) p h = absurd h
with_long bytes e Large p h = absurd h
with_long bytes e NoMemory p h = absurd h

one_stop : (bytes : List ℕ) (e : Bool) (why other : Lost) → Stops bytes e why → Stops bytes e other → why ≡ other
one_stop bytes e Read other p h = with_read bytes e other p h
one_stop bytes e (Closed n) other p h = with_closed bytes e n other p h
one_stop bytes e Frame other p h = with_long bytes e other p h
one_stop bytes e Send other p h = absurd p
one_stop bytes e (Ticket asked given) other p h = absurd p
one_stop bytes e Kinds other p h = absurd p
one_stop bytes e (Refused entry step) other p h = absurd p
one_stop bytes e Large other p h = absurd p
one_stop bytes e NoMemory other p h = absurd p

stops_or_whole : (bytes m : List ℕ) (e : Bool) (why : Lost) → Stops bytes e why → bytes ≡ frame_of m → length m ≤ most_bytes → ⊥
stops_or_whole bytes m e Read (part, _) is short = part_or_whole bytes m part is short
stops_or_whole bytes m e (Closed n) (part, _, _) is short = part_or_whole bytes m part is short
stops_or_whole bytes m e Frame (_, (n, long)) is short = long_or_whole bytes m n long is short
stops_or_whole bytes m e Send h is short = h
stops_or_whole bytes m e (Ticket asked given) h is short = h
stops_or_whole bytes m e Kinds h is short = h
stops_or_whole bytes m e (Refused entry step) h is short = h
stops_or_whole bytes m e Large h is short = h
stops_or_whole bytes m e NoMemory h is short = h

-- ---- the whole exchange

unasked_is : (v : ℕ) (j : JobTree) (why : Lost) → IsShown why → IsUnasked v j why → why ≡ Large
unasked_is v j Large s h = refl
unasked_is v j NoMemory s h = absurd s
unasked_is v j Send s h = absurd h
unasked_is v j Read s h = absurd h
unasked_is v j (Closed n) s h = absurd h
unasked_is v j Frame s h = absurd h
unasked_is v j (Ticket asked given) s h = absurd h
unasked_is v j Kinds s h = absurd h
unasked_is v j (Refused entry step) s h = absurd h

nothing_sent : (x : Talk) (m : List ℕ) → x ≡ nothing → x.sent ≡ frame_of m → ⊥
nothing_sent x m none sent =
    let empty : [] ≡ frame_of m = sym (ap (λ (z : Talk). z.sent) none) ∙ sent in
    let clash : 0 ≡ 4 + length m = ap length empty ∙ frame_size m in omega (arith, clash)

sent_in : (v : ℕ) (j : JobTree) (x : Talk) (m : List ℕ) → IsGiven v j x m → x.sent ≡ frame_of (request_of v j)
sent_in v j x m g = ap (λ (z : Talk). z.sent) g.talk

given_in : (v : ℕ) (j : JobTree) (x : Talk) (m : List ℕ) → IsGiven v j x m → x.given ≡ frame_of m
given_in v j x m g = ap (λ (z : Talk). z.given) g.talk

one_given : (v : ℕ) (j : JobTree) (x : Talk) (m n : List ℕ) → IsGiven v j x m → IsGiven v j x n → m ≡ n
one_given v j x m n g h = one_message x.given m n (given_in v j x m g) (given_in v j x n h) g.given_short h.given_short

pub one_cause : (v : ℕ) (j : JobTree) (x : Talk) (why other : Lost) → IsShown why → IsShown other → IsCauseOf v j x why → IsCauseOf v j x other → why ≡ other
one_cause v j x why other s s' (inl (_, p)) (inl (_, q)) = unasked_is v j why s p ∙ sym (unasked_is v j other s' q)
one_cause v j x why other s s' (inl (none, _)) (inr (inl (_, q))) = absurd (nothing_sent x (request_of v j) none (stops_so (frame_of (request_of v j)) x other s' q).0)
one_cause v j x why other s s' (inl (none, _)) (inr (inr (m, g, _))) = absurd (nothing_sent x (request_of v j) none (sent_in v j x m g))
one_cause v j x why other s s' (inr (inl (_, p))) (inl (none, _)) = absurd (nothing_sent x (request_of v j) none (stops_so (frame_of (request_of v j)) x why s p).0)
one_cause v j x why other s s' (inr (inl (_, p))) (inr (inl (_, q))) =
    one_stop x.given x.ended why other (stops_so (frame_of (request_of v j)) x why s p).1 (stops_so (frame_of (request_of v j)) x other s' q).1
one_cause v j x why other s s' (inr (inl (_, p))) (inr (inr (m, g, _))) =
    absurd (stops_or_whole x.given m x.ended why (stops_so (frame_of (request_of v j)) x why s p).1 (given_in v j x m g) g.given_short)
one_cause v j x why other s s' (inr (inr (m, g, _))) (inl (none, _)) = absurd (nothing_sent x (request_of v j) none (sent_in v j x m g))
one_cause v j x why other s s' (inr (inr (m, g, _))) (inr (inl (_, q))) =
    absurd (stops_or_whole x.given m x.ended other (stops_so (frame_of (request_of v j)) x other s' q).1 (given_in v j x m g) g.given_short)
one_cause v j x why other s s' (inr (inr (m, g, p))) (inr (inr (n, h, q))) =
    one_fault v j n why other s s' (subst (λ z. IsFaultIn v j z why) (one_given v j x m n g h) p) q

apart : (v : ℕ) (j : JobTree) (x : Talk) (t : Table) (why : Lost) → IsShown why → IsAnswered v j x t → IsCauseOf v j x why → ⊥
apart v j x t why s (m, g, table) (inl (none, _)) = nothing_sent x (request_of v j) none (sent_in v j x m g)
apart v j x t why s (m, g, table) (inr (inl (_, p))) = stops_or_whole x.given m x.ended why (stops_so (frame_of (request_of v j)) x why s p).1 (given_in v j x m g) g.given_short
apart v j x t why s (m, g, table) (inr (inr (n, h, fault))) = table_or_fault v j m t why s table (subst (λ z. IsFaultIn v j z why) (one_given v j x n m h g) fault)

tables_are_one : (v : ℕ) (j : JobTree) (x : Talk) (t u : Table) → IsAnswered v j x t → IsAnswered v j x u → t ≡ u
tables_are_one v j x t u (m, g, (ds, spells, _)) (n, h, (es, spells', _)) =
    let same = one_given v j x m n g h in
    one_table v n j.ticket j.ticket j.kinds j.kinds t u ds es (subst (λ z. SpellsIn v z (reply j.ticket j.kinds t ds)) same spells) spells'

pub one_outcome : OneOutcome
one_outcome = record { one_cause = one_cause; apart = apart; one_table = tables_are_one }
