-- An exchange, put together of its parts: the request, what passed, and what the reply gives.
use Rattle.std.proofs.Common.{◌≡◌, ◌⊎◌, inl, inr, refl, sym, subst, ℕ, ◌+◌, ◌≤◌, List, length, false}
use Rattle.std.specs.Prelude.{Option, Some, Result, Err}
use Rattle.px_entry.specs.declared.tables.Table.{Table}
use Rattle.px_callgraph.specs.JobTree.{JobTree}
use Rattle.px_frames.specs.Frames.{frame_of, most_bytes}
use Rattle.px_wire.specs.Messages.{IsMessage, request}
use Rattle.px_wire.proofs.ShortMessages.{short_has_version}
use Rattle.px_pieces.specs.declared.desk.Lost.{Lost}
use Rattle.px_pieces.specs.declared.desk.Lost.TheVariants.{Send, Read, Closed, Frame, Ticket, Kinds, Refused, Large, NoMemory}
use Rattle.px_pieces.specs.Pieces.{IsToldBy}
use Rattle.px_pool.specs.Talks.{Talk, Passes, nothing}
use Rattle.px_pool.specs.Words.{IsWordKept, IsInStep}
use Rattle.px_pool.specs.Starts.{HasFrames, GaveFrames}
use Rattle.px_pool.specs.LinkLaws.{exchanges}
use Rattle.px_pool.proofs.LinkTalks.{passes_nothing, exchanges_keep_step, words_are_of_pairs, one_frame_more, gave_one_more}
use Rattle.px_pool.specs.Outcomes.{request_of, GivesTable, IsFaultIn, IsUnasked, IsUnanswered, gave, IsAnswered, IsCauseOf, CountsFaults}
use Rattle.px_pool.specs.Reading.{Unanswered}
use Rattle.px_pool.specs.Laws.{AnswersAreOneFrame}

-- ---- causes

-- what passed between is a cause of this
abbrev pub HasCauseOf : ℕ → JobTree → Option Talk → Option Talk → Lost → Type 0
HasCauseOf v j a b why = (x : Talk) × Passes a b x × IsCauseOf v j x why

pub unasked : (v : ℕ) (j : JobTree) (a : Option Talk) (why : Lost) → IsUnasked v j why → HasCauseOf v j a a why
unasked v j a why h = (nothing, passes_nothing a, inl (refl, h))

pub unanswered : (v : ℕ) (j : JobTree) (a b : Option Talk) (frame : List ℕ) (why : Lost) → frame ≡ frame_of (request_of v j) → length (request_of v j) ≤ most_bytes →
    Unanswered a b frame why → HasCauseOf v j a b why
unanswered v j a b frame why is short (x, p, h) = (x, p, inr (inl (short, subst (λ f. IsUnanswered f x why) is h)))

-- ---- one message that was given

module _ (v : ℕ) (j : JobTree) (a b : Option Talk) (frame m : List ℕ) (is : frame ≡ frame_of (request_of v j)) (short : length (request_of v j) ≤ most_bytes) (short' : length m ≤ most_bytes)
    (given : Passes a b (gave frame (frame_of m) false)) where
  passed : Passes a b (exchanges (request_of v j) m)
  passed = subst (λ f. Passes a b (gave f (frame_of m) false)) is given

  pub faulty : (why : Lost) → IsFaultIn v j m why → HasCauseOf v j a b why
  faulty why h = (exchanges (request_of v j) m, passed, inr (inr (m, record { asked_short = short; given_short = short'; talk = refl }, h)))

  pub answered : (t : Table) → GivesTable v j m t → (x : Talk) × Passes a b x × IsAnswered v j x t
  answered t h = (exchanges (request_of v j) m, passed, (m, record { asked_short = short; given_short = short'; talk = refl }, h))

  pub step : IsInStep a → IsInStep b
  step h = (exchanges_keep_step a b (request_of v j) m h short short' passed).0

  pub word : (says : JobTree → Table → Type 0) (t : Table) → (v ≡ 1) ⊎ (v ≡ 2) → IsInStep a → IsWordKept says b → IsMessage (request j) → GivesTable v j m t → says j t
  word says t known h kept range (ds, spells, _) =
      words_are_of_pairs says b (request_of v j) m v j t ds kept ((exchanges_keep_step a b (request_of v j) m h short short' passed).1)
      (refl, range, short_has_version v (request j) known short) spells

  -- what is known of a copy of the job
  pub told : (says : JobTree → Table → Type 0) (copy : JobTree) (t : Table) → copy ≡ j → (v ≡ 1) ⊎ (v ≡ 2) → IsInStep a → IsWordKept says b → IsMessage (request j) → GivesTable v j m t → IsToldBy says copy t
  told says copy t same known h kept range table = inr (subst (λ z. says z t) (sym same) (word says t known h kept range table))

-- ---- counts

pub unasked_counts : {T : Type 0} (v : ℕ) (j : JobTree) (n : ℕ) (r : Result T Lost) (why : Lost) → r ≡ Err why → IsUnasked v j why → CountsFaults n n r
unasked_counts {T} v j n r why is h = subst (λ z. CountsFaults n n z) (sym is) (by_cause why h)
  where
    by_cause : (why : Lost) → IsUnasked v j why → CountsFaults {T = T} n n (Err why)
    by_cause Large h = refl
    by_cause NoMemory h = refl
    by_cause Send h = absurd h
    by_cause Read h = absurd h
    by_cause (Closed k) h = refl
    by_cause Frame h = refl
    by_cause (Ticket asked given) h = refl
    by_cause Kinds h = refl
    by_cause (Refused entry at) h = refl

pub fault_counts : {T : Type 0} (v : ℕ) (j : JobTree) (m : List ℕ) (a b : ℕ) (r : Result T Lost) (why : Lost) → r ≡ Err why → b ≡ a → IsFaultIn v j m why → CountsFaults a b r
fault_counts {T} v j m a b r why is same h = subst (λ z. CountsFaults a b z) (sym is) (by_cause why h)
  where
    by_cause : (why : Lost) → IsFaultIn v j m why → CountsFaults {T = T} a b (Err why)
    by_cause Large h = same
    by_cause NoMemory h = same
    by_cause Send h = absurd h
    by_cause Read h = absurd h
    by_cause (Closed k) h = same
    by_cause Frame h = same
    by_cause (Ticket asked given) h = same
    by_cause Kinds h = same
    by_cause (Refused entry at) h = same

pub err_counts : {T : Type 0} (U : Type 0) (a b : ℕ) (r : Result T Lost) (why : Lost) → r ≡ Err why → CountsFaults {T = U} a b (Err why) → CountsFaults a b r
err_counts {T} U a b r why is h = subst (λ z. CountsFaults a b z) (sym is) (by_cause why h)
  where
    by_cause : (why : Lost) → CountsFaults {T = U} a b (Err why) → CountsFaults {T = T} a b (Err why)
    by_cause Large h = h
    by_cause NoMemory h = h
    by_cause Send h = h
    by_cause Read h = h
    by_cause (Closed k) h = h
    by_cause Frame h = h
    by_cause (Ticket asked given) h = h
    by_cause Kinds h = h
    by_cause (Refused entry at) h = h

-- ---- whole frames

one_frame : (v : ℕ) (j : JobTree) (a b x : Talk) (t : Table) (n : ℕ) → IsInStep (Some a) → Passes (Some a) (Some b) x → IsAnswered v j x t → HasFrames a.given n → HasFrames b.given (n + 1)
one_frame v j a b x t n in_step p (m, is, _) frames =
    one_frame_more a b (request_of v j) m n in_step is.given_short (subst (λ y. Passes (Some a) (Some b) y) is.talk p) frames

one_frame_least : (v : ℕ) (j : JobTree) (a b : Option Talk) (x : Talk) (t : Table) (n : ℕ) → IsInStep a → Passes a b x → IsAnswered v j x t → GaveFrames a n → GaveFrames b (n + 1)
one_frame_least v j a b x t n in_step p (m, is, _) frames =
    gave_one_more a b (request_of v j) m n in_step is.given_short (subst (λ y. Passes a b y) is.talk p) frames

pub answers_are_one_frame : AnswersAreOneFrame
answers_are_one_frame = record { exactly = one_frame; at_least = one_frame_least }
