-- What is owed is determined, and an answer of more bytes begins with that of the bytes.
use Rattle.std.proofs.Common.{◌≡◌, refl, sym, subst, ◌∙◌, ap, arith, ℕ, ◌+◌, List, [], ◌∷◌, ◌++◌, length}
use Rattle.std.specs.Prelude.{flat_map}
use Rattle.std.specs.List.{AllByRecursion}
use Rattle.std.proofs.lemmas.List.{append_assoc, append-nil, length-append, nil_from_length}
use Rattle.px_callgraph.specs.JobTree.{JobTree}
use Rattle.px_frames.specs.Frames.{frame_of}
use Rattle.px_explore.specs.Own.{IsAnalysis}
use Rattle.px_explore.specs.Laws.{OneAnalysis}
use Rattle.px_wire.specs.Messages.{MessageTree, request, reply, large}
use Rattle.px_wire.specs.Versions.{SpellsIn}
use Rattle.px_wire.specs.Laws.{OneSpelling}
use Rattle.px_worker.specs.Answers.{AsksIn, IsRequest, reply_to, IsOwed, AreAnswered, OwesNothing, IsAnswer}
use Rattle.px_worker.specs.Served.{IsBegun}
use Rattle.px_frames.proofs.CutLemmas.{one_first}

abbrev pub Exchange : Type 0
Exchange = List ℕ × List ℕ

abbrev pub asked_of : List Exchange → List ℕ
asked_of xs = flat_map (λ (x : Exchange). frame_of x.0) xs

abbrev pub answer_of : List Exchange → List ℕ
answer_of xs = flat_map (λ (x : Exchange). frame_of x.1) xs

abbrev pub AreOwed : ℕ → List ℕ → List Exchange → Type 0
AreOwed known kinds xs = AllByRecursion (λ (x : Exchange). IsOwed known kinds x.0 x.1) xs

abbrev job_of : MessageTree → JobTree → JobTree
job_of (request j) k = j
job_of (reply ticket kinds table derivations) k = k
job_of (large ticket) k = k

-- a message asks for one job, in one version
pub one_asked : OneSpelling → (message : List ℕ) (v w : ℕ) (j k : JobTree) → SpellsIn v message (request j) → SpellsIn w message (request k) → (v ≡ w) × (j ≡ k)
one_asked one message v w j k a b =
    let told : (v ≡ w) × (request j ≡ request k) = one.one_told message v w (request j) (request k) a b in (told.0, ap (λ m. job_of m j) told.1)

-- and so where versions are known
pub one_job : OneSpelling → (known : ℕ) (message : List ℕ) (j k : JobTree) → AsksIn known message j → AsksIn known message k → j ≡ k
one_job one known message j k (v, few, a) (w, less, b) = (one_asked one message v w j k a b).1

pub one_owed : OneSpelling → OneAnalysis → (known : ℕ) (kinds message a b : List ℕ) → IsOwed known kinds message a → IsOwed known kinds message b → a ≡ b
one_owed one only known kinds message a b p q =
    let same : (p.version ≡ q.version) × (p.job ≡ q.job) = one_asked one message p.version q.version p.job q.job p.asks q.asks in
    let alike : p.analysis ≡ q.analysis = only q.job p.analysis q.analysis (subst (λ j. IsAnalysis j p.analysis) same.1 p.is_analysis) q.is_analysis in
    p.answer_is
    ∙ ap (λ v. reply_to v kinds p.job p.analysis) same.0
    ∙ ap (λ j. reply_to q.version kinds j p.analysis) same.1
    ∙ ap (λ x. reply_to q.version kinds q.job x) alike
    ∙ sym q.answer_is

pub is_request : (known : ℕ) (kinds message answer : List ℕ) → IsOwed known kinds message answer → IsRequest known kinds message
is_request known kinds message answer p = record { short = p.short; job = p.job; asks = (p.version, p.is_known, p.asks); own = p.own }

-- ---- the exchanges that bytes begin with

module _ (one : OneSpelling) (only : OneAnalysis) (known : ℕ) (kinds : List ℕ) where
  grows_by : (xs ys : List Exchange) (bytes rest rest' : List ℕ) → AreOwed known kinds xs → AreOwed known kinds ys →
      bytes ≡ asked_of xs ++ rest → bytes ≡ asked_of ys ++ rest' → OwesNothing known kinds rest' → (later : List ℕ) × (answer_of ys ≡ answer_of xs ++ later)
  grows_by [] ys bytes rest rest' p q is is' nothing = (answer_of ys, refl)
  grows_by (x ∷ xs) [] bytes rest rest' p q is is' nothing =
      absurd (nothing x.0 (asked_of xs ++ rest) (sym is' ∙ is ∙ append_assoc (frame_of x.0) (asked_of xs) rest) (is_request known kinds x.0 x.1 p.0))
  grows_by (x ∷ xs) (y ∷ ys) bytes rest rest' p q is is' nothing =
      let first : (x.0 ≡ y.0) × (asked_of xs ++ rest ≡ asked_of ys ++ rest') =
      one_first bytes x.0 y.0 (asked_of xs ++ rest) (asked_of ys ++ rest') p.0.short q.0.short
      (is ∙ append_assoc (frame_of x.0) (asked_of xs) rest) (is' ∙ append_assoc (frame_of y.0) (asked_of ys) rest') in
      let same : x.1 ≡ y.1 = one_owed one only known kinds y.0 x.1 y.1 (subst (λ m. IsOwed known kinds m x.1) first.0 p.0) q.0 in
      let more : (later : List ℕ) × (answer_of ys ≡ answer_of xs ++ later) = grows_by xs ys (asked_of xs ++ rest) rest rest' p.1 q.1 refl first.1 nothing in
      (more.0, ap (λ l. frame_of l ++ answer_of ys) (sym same) ∙ ap (λ l. frame_of x.1 ++ l) more.1 ∙ sym (append_assoc (frame_of x.1) (answer_of xs) more.0))

  -- an answer of all begins with the answer of what stands in front
  pub begins : (bytes before rest a b : List ℕ) → bytes ≡ before ++ rest → AreAnswered known kinds before a → IsAnswer known kinds bytes b → (later : List ℕ) × (b ≡ a ++ later)
  begins bytes before rest a b is p q =
      let more : (later : List ℕ) × (answer_of q.answered.exchanges ≡ answer_of p.exchanges ++ later) =
      grows_by p.exchanges q.answered.exchanges bytes rest q.rest p.owed q.answered.owed
      (is ∙ ap (λ l. l ++ rest) p.asked) (q.split ∙ ap (λ l. l ++ q.rest) q.answered.asked) q.nothing_more in
      (more.0, q.answered.answered ∙ more.1 ∙ ap (λ l. l ++ more.0) (sym p.answered))

  pub same_answer : (bytes a b : List ℕ) → IsAnswer known kinds bytes a → IsAnswer known kinds bytes b → a ≡ b
  same_answer bytes a b p q =
      let more : (later : List ℕ) × (b ≡ a ++ later) = begins bytes p.before p.rest a b p.split p.answered q in
      let less : (later : List ℕ) × (a ≡ b ++ later) = begins bytes q.before q.rest b a q.split q.answered p in
      let all : length b ≡ length a + length more.0 = ap length more.1 ∙ length-append a more.0 in
      let back : length a ≡ length b + length less.0 = ap length less.1 ∙ length-append b less.0 in
      sym (more.1 ∙ ap (λ l. a ++ l) (nil_from_length more.0 (omega arith)) ∙ append-nil a)

  pub begun : (bytes written answer : List ℕ) → IsBegun known kinds bytes written → IsAnswer known kinds bytes answer → (more : List ℕ) × (answer ≡ written ++ more)
  begun bytes written answer p q =
      let more : (later : List ℕ) × (answer ≡ (written ++ p.later) ++ later) = begins bytes p.before p.rest (written ++ p.later) answer p.split p.answered q in
      (p.later ++ more.0, more.1 ∙ append_assoc written p.later more.0)
