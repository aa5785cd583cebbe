-- Jumps over what is no loop, and pieces on top of others.
use Rattle.std.proofs.Common.{◌≡◌, ◌≤◌, ℕ, suc, List, [], ◌∷◌, ◌++◌, length, take, get_or, Bor, sym, ◌∙◌, ap, arith}
use Rattle.std.proofs.Math.Seq.{take-suc}
use Rattle.std.proofs.lemmas.Grind.{fold-append}
use Rattle.px_core.specs.declared.command.Command.{Command}
use Rattle.px_core.specs.CommandTree.{CommandTrees}
use Rattle.px_core.specs.Control.{Item, acts, leave_to, break_to, continue_to}
use Rattle.px_core.specs.WellFormedItems.{where_in}
use Rattle.px_core.proofs.ItemLemmas.{where_acts}
use Rattle.px_core.proofs.Acts.{leave_acts, break_acts, continue_acts}
use Rattle.px_walks.specs.declared.pieces.Piece.{Piece}
use Rattle.px_walks.specs.declared.pieces.Piece.TheVariants.{Commands}
use Rattle.px_walks.specs.Items.{trees, items_of, on_top}
use Rattle.px_walks.specs.Nexts.{JumpsAs}

pub items_push : (ps : List Piece) (p : Piece) → items_of (ps ++ p ∷ []) ≡ on_top (items_of ps) p
items_push ps p = fold-append on_top [] ps (p ∷ [])

pub jumps_over : (cs : CommandTrees) (k : List Item) → JumpsAs (acts cs k) k
jumps_over cs k = record { leaves = leave_acts cs k; breaks = break_acts cs k; continues = continue_acts cs k }

pub jumps_on : (xs ys zs : List Item) → JumpsAs xs ys → JumpsAs ys zs → JumpsAs xs zs
jumps_on xs ys zs h k = record { leaves = h.leaves ∙ k.leaves; breaks = h.breaks ∙ k.breaks; continues = h.continues ∙ k.continues }

pub jumps_eq : (xs ys : List Item) → xs ≡ ys → JumpsAs xs ys
jumps_eq xs ys e = record { leaves = ap leave_to e; breaks = ap break_to e; continues = ap continue_to e }

-- commands that are taken off are no place for jumps
pub jumped : (all : List Item) (ps qs : List Piece) (p : Piece) (cs : Bor (List Command)) → JumpsAs all (items_of ps) → ps ≡ qs ++ p ∷ [] → p ≡ Commands cs → JumpsAs all (items_of qs)
jumped all ps qs p cs h e is =
    jumps_on all (items_of ps) (items_of qs) h
    (jumps_on (items_of ps) (acts (trees cs.now) (items_of qs)) (items_of qs)
    (jumps_eq _ _ (ap items_of e ∙ items_push qs p ∙ ap (on_top (items_of qs)) is))
    (jumps_over (trees cs.now) (items_of qs)))

-- nor do they tell the part of a loop
pub where_below : (ps : List Piece) (n m : ℕ) (d : Piece) (cs : Bor (List Command)) → n ≡ suc m → n ≤ length ps → get_or ps m d ≡ Commands cs → where_in (items_of (take m ps)) ≡ where_in (items_of (take n ps))
where_below ps n m d cs e h is =
    let taken : take n ps ≡ take m ps ++ get_or ps m d ∷ [] = ap (λ z. take z ps) e ∙ take-suc ps m d (omega arith) in
    sym (ap (λ z. where_in (items_of z)) taken
    ∙ ap where_in (items_push (take m ps) (get_or ps m d) ∙ ap (on_top (items_of (take m ps))) is)
    ∙ where_acts (trees cs.now) (items_of (take m ps)))
