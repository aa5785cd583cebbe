-- LookCounts of one procedure after another.
use Rattle.std.proofs.Common.{◌≡◌, ℕ, ◌+◌, ◌<◌, ◌≤◌, List, [], ◌∷◌, ◌++◌, length, get_or, drop, map, refl, sym, ap, subst, subst₂, ◌∙◌, append_assoc, append-nil, arith}
use Rattle.std.proofs.lemmas.List.{drop_more, drop_all}
use Rattle.px_pieces.specs.declared.findings.Part.{Part}
use Rattle.px_syntax.specs.declared.program.Procedure.{Procedure}
use Rattle.px_syntax.specs.ProgramTree.{procedure_tree}
use Rattle.px_text_report.specs.Known.{known_of}
use Rattle.px_undecided.specs.declared.counting.LookCounts.{LookCounts}
use Rattle.px_undecided.specs.Counting.{AreCountsOf, AreCounts}

-- the counts of those from a place on are all that the whole lacks
abbrev pub LacksFrom : ℕ → List Procedure → List Part → ℕ → List LookCounts → Type 0
LacksFrom conflicts ps parts i all =
    (rest : List LookCounts) → AreCounts conflicts (map procedure_tree (drop i ps)) (map known_of (drop i parts)) rest → AreCounts conflicts (map procedure_tree ps) (map known_of parts) (all ++ rest)

pub lacks_next : (conflicts : ℕ) (ps : List Procedure) (parts : List Part) (i : ℕ) (p : Procedure) (x : Part) (all more new : List LookCounts) → i < length ps → i < length parts
    → p ≡ get_or ps i p → x ≡ get_or parts i x → LacksFrom conflicts ps parts i all → new ≡ all ++ more → AreCountsOf conflicts (get_or ps i p).proc (known_of x) more → LacksFrom conflicts ps parts (i + 1) new
lacks_next conflicts ps parts i p x all more new l k is_p is_x before e h rest r =
    let a : drop i ps ≡ p ∷ drop (i + 1) ps = drop_more ps i p l ∙ ap (λ z. z ∷ drop (i + 1) ps) (sym is_p) in
    let b : drop i parts ≡ x ∷ drop (i + 1) parts = drop_more parts i x k ∙ ap (λ z. z ∷ drop (i + 1) parts) (sym is_x) in
    let of : AreCountsOf conflicts p.proc (known_of x) more = subst (λ (q : Procedure). AreCountsOf conflicts q.proc (known_of x) more) (sym is_p) h in
    subst (AreCounts conflicts (map procedure_tree ps) (map known_of parts)) (sym (append_assoc all more rest) ∙ ap (λ z. z ++ rest) (sym e))
    (before (more ++ rest) (subst₂ (λ us vs. AreCounts conflicts (map procedure_tree us) (map known_of vs) (more ++ rest)) (sym a) (sym b) (more, rest, refl, of, r)))

-- at the end it lacks none
pub lacks_none : (conflicts : ℕ) (ps : List Procedure) (parts : List Part) (i : ℕ) (all : List LookCounts) → length parts ≡ length ps → length parts ≤ i → LacksFrom conflicts ps parts i all
    → AreCounts conflicts (map procedure_tree ps) (map known_of parts) all
lacks_none conflicts ps parts i all size end before =
    let a = drop_all i ps (omega (arith, size, end)) in
    let b = drop_all i parts end in
    subst (AreCounts conflicts (map procedure_tree ps) (map known_of parts)) (append-nil all)
    (before [] (subst₂ (λ us vs. AreCounts conflicts (map procedure_tree us) (map known_of vs) []) (sym a) (sym b) refl))
