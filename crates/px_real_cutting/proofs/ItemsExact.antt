-- Pieces make items in one way.
use Rattle.std.proofs.Common.{◌≡◌, ℕ, zero, suc, ◌≤◌, ◌==◌, true, List, [], ◌∷◌, ◌++◌, length, Option, Some, None, Result, Ok, Err, refl, sym, ap, subst, ◌∙◌, arith}
use Rattle.std.proofs.lemmas.Bool.{eqb-true}
use Rattle.std.proofs.lemmas.List.{append-nil, nil_from_length}
use Rattle.px_base.specs.declared.trace.Site.{Site}
use Rattle.px_real_cutting.specs.declared.roles.Mark.{Mark}
use Rattle.px_real_cutting.specs.declared.roles.Ending.{Ending}
use Rattle.px_real_cutting.specs.declared.roles.Ending.TheVariants as E
use Rattle.px_real_cutting.specs.declared.pieces.Piece.{Piece}
use Rattle.px_real_cutting.specs.declared.cutting.Item.{Item}
use Rattle.px_real_cutting.specs.Pieces.{Cuts}
use Rattle.px_real_cutting.specs.Items.{behind, body_behind, body_of, is_definition, item, Items, no_items, old_style, by_itself, IsCut, is_cut, is_stopped}
use Rattle.px_real_cutting.proofs.PiecesExact.{one_list, some_list}

abbrev Left : Type 0
Left = Option (ℕ × List Piece)

same_left : (after : ℕ) (ps : List Piece) (x : ℕ × List Piece) → Some (after, ps) ≡ Some x → ps ≡ x.1
same_left after ps x h = cc

-- what is left behind a body is shorter
fits_by : (e : Ending) (after : ℕ) (ps : List Piece) (later : Left) (x : ℕ × List Piece) → ((y : ℕ × List Piece) → later ≡ Some y → length y.1 ≤ length ps) → behind e after ps later ≡ Some x → length x.1 ≤ length ps
fits_by E.Head after ps later x next h = absurd cc
fits_by E.Definition after ps later x next h = absurd cc
fits_by E.Declaration after ps later x next h = next x h
fits_by E.Body after ps later x next h = omega (arith, ap length (same_left after ps x h))

behind_fits : (ps : List Piece) (x : ℕ × List Piece) → body_behind ps ≡ Some x → length x.1 ≤ length ps
behind_fits [] x h = absurd cc
behind_fits (p ∷ ps) x h =
    let le : length x.1 ≤ length ps = fits_by p.ending p.after ps (body_behind ps) x (λ y k. behind_fits ps y k) h in
    omega arith

pub body_fits : (e : Ending) (ps : List Piece) (x : ℕ × List Piece) → body_of e ps ≡ Some x → length x.1 ≤ length ps
body_fits E.Head ps x h = behind_fits ps x h
body_fits E.Declaration ps x h = absurd cc
body_fits E.Definition ps x h = absurd cc
body_fits E.Body ps x h = absurd cc

-- the items as a function of the pieces, n of them at most
abbrev items_by : Piece → List Piece → (List Piece → List Item) → Left → List Item
items_by p ps next (Some x) = item p.first x.0 true ∷ next x.1
items_by p ps next None = item p.first p.after (is_definition p.ending) ∷ next ps

abbrev items_at : ℕ → List Piece → List Item
items_at n [] = []
items_at zero (p ∷ ps) = []
items_at (suc n) (p ∷ ps) = items_by p ps (λ us. items_at n us) (body_of p.ending ps)

items_is : (n : ℕ) (ps : List Piece) (is : List Item) → length ps ≤ n → Items ps is → items_at n ps ≡ is
items_is zero ps is le (no_items h g) = rw (h, g) refl
items_is (suc n) ps is le (no_items h g) = rw (h, g) refl
items_is zero ps is le (old_style h m parts g) = absurd (let z = ap length parts in omega arith)
items_is zero ps is le (by_itself h m parts g) = absurd (let z = ap length parts in omega arith)
items_is (suc n) ps is le (old_style {p = p} {after = after} {ps1 = ps1} {rest = rest} {is1 = is1} h m parts g) =
    let fits : length rest ≤ n = omega (arith, body_fits p.ending ps1 (after, rest) h, ap length parts) in
    let later : items_at n rest ≡ is1 = items_is n rest is1 fits m in
    rw (parts, g, h, later) refl
items_is (suc n) ps is le (by_itself {p = p} {ps1 = ps1} {is1 = is1} h m parts g) =
    let fits : length ps1 ≤ n = omega (arith, ap length parts) in
    let later : items_at n ps1 ≡ is1 = items_is n ps1 is1 fits m in
    rw (parts, g, h, later) refl

one_items : (ps : List Piece) (a b : List Item) → Items ps a → Items ps b → a ≡ b
one_items ps a b g h = sym (items_is (length ps) ps a (omega arith) g) ∙ items_is (length ps) ps b (omega arith) h

-- ---- each list of pieces makes items

abbrev Some_items : List Piece → Type 0
Some_items ps = (is : List Item) × Items ps is

items_behind : (p : Piece) (ps : List Piece) → ((us : List Piece) → length us ≤ length ps → Some_items us) → (x : Left) → body_of p.ending ps ≡ x → Some_items (p ∷ ps)
items_behind p ps next (Some x) h = let later = next x.1 (body_fits p.ending ps x h) in (item p.first x.0 true ∷ later.0, old_style {after = x.0} {rest = x.1} h later.1 refl refl)
items_behind p ps next None h = let later = next ps (omega arith) in (item p.first p.after (is_definition p.ending) ∷ later.0, by_itself h later.1 refl refl)

some_items : (n : ℕ) (ps : List Piece) → length ps ≤ n → Some_items ps
some_items n [] le = ([], no_items refl refl)
some_items zero (p ∷ ps) le = absurd (omega arith)
some_items (suc n) (p ∷ ps) le = items_behind p ps (λ us fits. some_items n us (omega arith)) (body_of p.ending ps) refl

-- ---- tokens are cut in one way, and in some way

abbrev Cut : Type 0
Cut = Result (List Piece) Site

abbrev done : List Piece → Cut
done ps = Ok ps

abbrev halted : Site → Cut
halted place = Err place

same_pieces : (a b : List Piece) → done a ≡ done b → a ≡ b
same_pieces a b h = cc

same_place : (a b : Site) → halted a ≡ halted b → a ≡ b
same_place a b h = cc

pub one_cutting : (ts : List Mark) (a b : Result (List Item) Site) → IsCut ts a → IsCut ts b → a ≡ b
one_cutting ts a b (is_cut ps is c m g) (is_cut qs js d n h) =
    let same : ps ≡ qs = same_pieces ps qs (one_list 0 ts (Ok ps) (Ok qs) c d) in
    g ∙ ap (λ z. Ok z) (one_items qs is js (subst (λ z. Items z is) same m) n) ∙ sym h
one_cutting ts a b (is_cut ps is c m g) (is_stopped place d h) = absurd (let z = one_list 0 ts (Ok ps) (Err place) c d in cc)
one_cutting ts a b (is_stopped place c g) (is_cut ps is d n h) = absurd (let z = one_list 0 ts (Err place) (Ok ps) c d in cc)
one_cutting ts a b (is_stopped place c g) (is_stopped other d h) = g ∙ ap (λ z. Err z) (same_place place other (one_list 0 ts (Err place) (Err other) c d)) ∙ sym h

pub some_cutting : (ts : List Mark) → (r : Result (List Item) Site) × IsCut ts r
some_cutting ts = by (some_list 0 ts).0 (some_list 0 ts).1
  where
    by : (r : Result (List Piece) Site) → Cuts 0 ts r → (r : Result (List Item) Site) × IsCut ts r
    by (Ok ps) c = let is = some_items (length ps) ps (omega arith) in (Ok is.0, is_cut ps is.0 c is.1 refl)
    by (Err place) c = (Err place, is_stopped place c refl)

-- ---- the loop over the items

pub joined_all : (ps rest : List Piece) (xs : List Item) → ((is : List Item) → Items rest is → Items ps (xs ++ is)) → (length rest == 0) ≡ true → Items ps xs
joined_all ps rest xs so_far h =
    let none : rest ≡ [] = nil_from_length rest (eqb-true (length rest) 0 h) in
    subst (Items ps) (append-nil xs) (so_far [] (no_items none refl))
