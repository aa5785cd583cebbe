-- What a worker replies to a request is the analysis of its job.
use Rattle.std.proofs.Common.{◌≡◌, refl, sym, subst, ◌∙◌, ap, arith, inl, inr, ℕ, suc, zero, ◌≤◌, List, [], ◌∷◌, ◌++◌, length}
use Rattle.std.specs.Prelude.{get_or, slice_get, Some, Bool, true, false, ◌==◌, if◌then◌else◌}
use Rattle.std.proofs.lemmas.Bool.{cases_lt}
use Rattle.std.proofs.lemmas.List.{append_assoc}
use Rattle.px_entry.specs.declared.derivations.Derivation.{Derivation}
use Rattle.px_entry.specs.declared.tables.Table.{Table}
use Rattle.px_callgraph.specs.JobTree.{JobTree}
use Rattle.px_frames.specs.Frames.{frame_of, most_bytes}
use Rattle.px_frames.specs.Feeding.{Feeding}
use Rattle.px_frames.specs.Cutting.{AreFrames}
use Rattle.px_wire.specs.Messages.{MessageTree, tag_of, message_bytes, request, reply, large}
use Rattle.px_wire.specs.Versions.{shared_bytes, bytes_in, SpellsIn}
use Rattle.px_wire.specs.Laws.{OneSpelling}
use Rattle.px_explore.specs.declared.results.Analysis.{Analysis}
use Rattle.px_explore.specs.Own.{IsAnalysis}
use Rattle.px_worker.specs.Answers.{IsOwed}
use Rattle.px_worker.specs.Laws.{RepliesAreAnalyses}
use Rattle.px_worker.proofs.FirstFrames.{no_frame}
use Rattle.px_worker.proofs.AnswerLemmas.{Exchange, asked_of, answer_of, AreOwed, one_asked}
use Rattle.px_worker.proofs.OwedLemmas.{fits, too_long}
use Rattle.px_frames.proofs.CutLemmas.{one_first}

-- ---- one answer

-- what is so of two lists is so of either
either : (P : List ℕ → Type 0) (b : Bool) (xs ys : List ℕ) → P xs → P ys → P (if b then xs else ys)
either P true xs ys p q = p
either P false xs ys p q = q

-- that a reply is too long takes ten bytes, in each version
large_size : (version ticket : ℕ) → length (bytes_in version (large ticket)) ≡ 10
large_size version ticket = either (λ l. length l ≡ 10) (version == 2) (shared_bytes (large ticket)) (message_bytes (large ticket)) refl refl

-- the first byte says which message it is
first_byte : (version : ℕ) (m : MessageTree) → get_or (bytes_in version m) 0 0 ≡ tag_of m
first_byte version m = either (λ l. get_or l 0 0 ≡ tag_of m) (version == 2) (shared_bytes m) (message_bytes m) refl refl

-- what is owed has room in a frame
short_answer : (known : ℕ) (kinds message answer : List ℕ) → IsOwed known kinds message answer → length answer ≤ most_bytes
short_answer known kinds message answer p =
    let said : List ℕ = bytes_in p.version (reply p.job.ticket kinds p.analysis.table p.analysis.derivations) in
    let other : List ℕ = bytes_in p.version (large p.job.ticket) in
    elim (cases_lt most_bytes (length said)) [
      | inl long ↦
          let is : answer ≡ other = p.answer_is ∙ too_long said other long in
          let ten : length other ≡ 10 = large_size p.version p.job.ticket in
          let few : length other ≤ most_bytes = omega arith in subst (λ l. length l ≤ most_bytes) (sym is) few
      | inr short ↦ let is : answer ≡ said = p.answer_is ∙ fits said other short in subst (λ l. length l ≤ most_bytes) (sym is) short
    ]

-- bytes that begin with 2 and those that begin with 1 are others
other_tag : (a b : List ℕ) → get_or a 0 0 ≡ 2 → get_or b 0 0 ≡ 1 → a ≡ b → ⊥
other_tag a b two one is = let same : get_or a 0 0 ≡ get_or b 0 0 = ap (λ l. get_or l 0 0) is in omega arith

-- the table and the derivations of a reply
abbrev told_by : MessageTree → Analysis → Analysis
told_by (request j) a = a
told_by (reply ticket kinds t ds) a = record { table = t; derivations = ds }
told_by (large ticket) a = a

-- a reply that is owed for a job has its analysis
owed_analysis : OneSpelling → (known : ℕ) (kinds message answer : List ℕ) (version : ℕ) (j : JobTree) (t : Table) (ds : List Derivation) → IsOwed known kinds message answer →
    SpellsIn version message (request j) → SpellsIn version answer (reply j.ticket j.kinds t ds) → IsAnalysis j (record { table = t; derivations = ds })
owed_analysis one known kinds message answer version j t ds p asks spelled =
    let m : MessageTree = reply p.job.ticket kinds p.analysis.table p.analysis.derivations in
    let n : MessageTree = reply j.ticket j.kinds t ds in
    let said : List ℕ = bytes_in p.version m in
    let other : List ℕ = bytes_in p.version (large p.job.ticket) in
    elim (cases_lt most_bytes (length said)) [
      | inl long ↦
          let clash : other ≡ bytes_in version n = sym (p.answer_is ∙ too_long said other long) ∙ spelled.0 in
          absurd (other_tag other (bytes_in version n) (first_byte p.version (large p.job.ticket)) (first_byte version n) clash)
      | inr short ↦
          let same : (p.version ≡ version) × (m ≡ n) = one.one_told answer p.version version m n (p.answer_is ∙ fits said other short, p.in_range, p.in_version) spelled in
          subst (λ a. IsAnalysis j a) (ap (λ w. told_by w p.analysis) same.1)
          (subst (λ k. IsAnalysis k p.analysis) (one_asked one message p.version version p.job j p.asks asks).1 p.is_analysis)
    ]

-- ---- the exchange at a place

-- what was given at a place is owed for the message of an exchange
nth_given : (known : ℕ) (kinds : List ℕ) (xs : List Exchange) (given more : List ℕ) (messages : List (List ℕ)) (left : Feeding) (n : ℕ) (answer : List ℕ) → AreOwed known kinds xs →
    given ++ more ≡ answer_of xs → AreFrames given messages left → slice_get messages n ≡ Some answer → (x : Exchange) × (slice_get xs n ≡ Some x) × (x.1 ≡ answer) × IsOwed known kinds x.0 x.1
nth_given known kinds [] given more [] left n answer p is frames at = absurd cc
nth_given known kinds [] given more (m ∷ ms) left n answer p is (short, rest, begins, others) at =
    absurd (no_frame m (rest ++ more) (sym is ∙ ap (λ l. l ++ more) begins ∙ append_assoc (frame_of m) rest more))
nth_given known kinds (x ∷ xs) given more [] left n answer p is frames at = absurd cc
nth_given known kinds (x ∷ xs) given more (m ∷ ms) left zero answer p is (short, rest, begins, others) at =
    let first : (m ≡ x.1) × (rest ++ more ≡ answer_of xs) =
    one_first (given ++ more) m x.1 (rest ++ more) (answer_of xs) short (short_answer known kinds x.0 x.1 p.0) (ap (λ l. l ++ more) begins ∙ append_assoc (frame_of m) rest more) is in
    let same : m ≡ answer = cc in (x, refl, sym first.0 ∙ same, p.0)
nth_given known kinds (x ∷ xs) given more (m ∷ ms) left (suc n) answer p is (short, rest, begins, others) at =
    let first : (m ≡ x.1) × (rest ++ more ≡ answer_of xs) =
    one_first (given ++ more) m x.1 (rest ++ more) (answer_of xs) short (short_answer known kinds x.0 x.1 p.0) (ap (λ l. l ++ more) begins ∙ append_assoc (frame_of m) rest more) is in
    nth_given known kinds xs rest more ms left n answer p.1 first.1 others at

-- what was sent at a place is the message of the exchange there
nth_asked : (known : ℕ) (kinds : List ℕ) (xs : List Exchange) (sent rest : List ℕ) (messages : List (List ℕ)) (left : Feeding) (n : ℕ) (asked : List ℕ) (x : Exchange) → AreOwed known kinds xs →
    sent ≡ asked_of xs ++ rest → AreFrames sent messages left → slice_get messages n ≡ Some asked → slice_get xs n ≡ Some x → x.0 ≡ asked
nth_asked known kinds [] sent rest messages left n asked x p is frames at found = absurd cc
nth_asked known kinds (y ∷ ys) sent rest [] left n asked x p is frames at found = absurd cc
nth_asked known kinds (y ∷ ys) sent rest (m ∷ ms) left zero asked x p is (short, more, begins, others) at found =
    let first : (m ≡ y.0) × (more ≡ asked_of ys ++ rest) =
    one_first sent m y.0 more (asked_of ys ++ rest) short p.0.short begins (is ∙ append_assoc (frame_of y.0) (asked_of ys) rest) in
    let same : m ≡ asked = cc in
    let here : y ≡ x = cc in ap (λ (z : Exchange). z.0) (sym here) ∙ sym first.0 ∙ same
nth_asked known kinds (y ∷ ys) sent rest (m ∷ ms) left (suc n) asked x p is (short, more, begins, others) at found =
    let first : (m ≡ y.0) × (more ≡ asked_of ys ++ rest) =
    one_first sent m y.0 more (asked_of ys ++ rest) short p.0.short begins (is ∙ append_assoc (frame_of y.0) (asked_of ys) rest) in
    nth_asked known kinds ys more rest ms left n asked x p.1 first.1 others at found

pub analyses : OneSpelling → RepliesAreAnalyses
analyses one = λ known kinds sent given pending asks gave more left n asked answer version j t ds begun are_asked are_given at_asked at_answer is_asked is_reply.
    let xs : List Exchange = begun.answered.exchanges in
    let all : given ++ (pending ++ begun.later) ≡ answer_of xs = sym (append_assoc given pending begun.later) ∙ begun.answered.answered in
    let found : (x : Exchange) × (slice_get xs n ≡ Some x) × (x.1 ≡ answer) × IsOwed known kinds x.0 x.1 =
    nth_given known kinds xs given (pending ++ begun.later) gave left n answer begun.answered.owed all are_given at_answer in
    let front : sent ≡ asked_of xs ++ begun.rest = begun.split ∙ ap (λ l. l ++ begun.rest) begun.answered.asked in
    let message : found.0.0 ≡ asked = nth_asked known kinds xs sent begun.rest asks more n asked found.0 begun.answered.owed front are_asked at_asked found.1 in
    let owed : IsOwed known kinds asked answer = subst (λ l. IsOwed known kinds asked l) found.2 (subst (λ l. IsOwed known kinds l found.0.1) message found.3) in
    owed_analysis one known kinds asked answer version j t ds owed is_asked is_reply
