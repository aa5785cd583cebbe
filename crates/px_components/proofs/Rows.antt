-- Adjacency lists as vectors.
use Rattle.std.proofs.Common.{◌≡◌, ℕ, ◌<◌, ◌^◌, List, [], ◌∷◌, ◌++◌, map, length, get_or, set, Vec, Global, sym, ap, subst, ◌∙◌, arith, length-set}
use Rattle.std.proofs.lemmas.List.{get_or-map, map-set, set-get_or, length-map}
use Rattle.px_components.specs.Graphs.{IsGraph}
use Rattle.px_components.proofs.Edges.{graph_added}

abbrev pub rows_of : List (Vec ℕ Global) → List (List ℕ)
rows_of vs = map (λ (v : Vec ℕ Global). v.items) vs

pub row_at : (vs : List (Vec ℕ Global)) (i : ℕ) (v : Vec ℕ Global) → i < length (rows_of vs) → v ≡ get_or vs i v → v.items ≡ get_or (rows_of vs) i []
row_at vs i v l e = ap (λ (w : Vec ℕ Global). w.items) e ∙ sym (get_or-map (λ (w : Vec ℕ Global). w.items) vs i v [] (omega (arith, length-map vs (λ (w : Vec ℕ Global). w.items))))

-- a row changed
pub rows_set : (vs : List (Vec ℕ Global)) (i : ℕ) (v : Vec ℕ Global) (row : List ℕ) → v.items ≡ row → rows_of (set vs i v) ≡ set (rows_of vs) i row
rows_set vs i v row e = map-set (λ (w : Vec ℕ Global). w.items) vs i v ∙ ap (set (rows_of vs) i) e

pub rows_kept : (vs : List (Vec ℕ Global)) (i : ℕ) (v : Vec ℕ Global) → v.items ≡ get_or (rows_of vs) i [] → rows_of (set vs i v) ≡ rows_of vs
rows_kept vs i v e = rows_set vs i v (get_or (rows_of vs) i []) e ∙ set-get_or (rows_of vs) i []

abbrev IsKept : List (Vec ℕ Global) → List (Vec ℕ Global) → Type 0
IsKept old new = IsGraph (rows_of old) × (length old < 2 ^ 32) → IsGraph (rows_of new) × (length new < 2 ^ 32)

pub graph_kept : (vs : List (Vec ℕ Global)) (i : ℕ) (v : Vec ℕ Global) → v.items ≡ get_or (rows_of vs) i [] → IsKept vs (set vs i v)
graph_kept vs i v e (g, l) = (subst IsGraph (sym (rows_kept vs i v e)) g, omega (arith, length-set {A = Vec ℕ Global}))

pub graph_more : (vs : List (Vec ℕ Global)) (i to : ℕ) (v : Vec ℕ Global) → i < length (rows_of vs) → to < length (rows_of vs)
    → v.items ≡ get_or (rows_of vs) i [] ++ to ∷ [] → IsKept vs (set vs i v)
graph_more vs i to v l m e (g, n) = (
  subst IsGraph (sym (rows_set vs i v (get_or (rows_of vs) i [] ++ to ∷ []) e)) (graph_added (rows_of vs) i to l m g),
  omega (arith, length-set {A = Vec ℕ Global}),
)
