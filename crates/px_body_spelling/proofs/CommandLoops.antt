-- Commands one after the other, as a loop reads and writes them.
use Rattle.std.proofs.Common.{◌≡◌, ℕ, suc, ◌-◌, ◌+◌, ◌≤◌, ◌<◌, List, [], ◌∷◌, ◌++◌, length, map, Option, Some, None, refl, sym, ap, ◌∙◌, arith}
use Rattle.px_core.specs.declared.command.Command.{Command}
use Rattle.px_core.specs.CommandTree.{CommandTree, CommandTrees, no_commands, a_command, commands_of, command_tree}
use Rattle.px_core.specs.Sizes.{command_size, commands_size}
use Rattle.px_spelling.specs.declared.fault.WireFault.{WireFault}
use Rattle.px_spelling.specs.declared.fault.WireFault.TheVariants.{NotAMessage, NoMemory}
use Rattle.px_spelling.specs.Reading.{Reader, Fails, ◌<*>◌, done}
use Rattle.px_body_spelling.specs.Commands.{how_many, row_at}

-- commands in front of others
abbrev pub put_before : List CommandTree → CommandTrees → CommandTrees
put_before [] cs = cs
put_before (x ∷ xs) cs = a_command x (put_before xs cs)

-- what was read before, and what is still read
abbrev pub with_front : List CommandTree → Option (CommandTrees × List ℕ) → Option (CommandTrees × List ℕ)
with_front front (Some x) = Some (put_before front x.0, x.1)
with_front front None = None

put_one : (front : List CommandTree) (c : CommandTree) (cs : CommandTrees) → put_before front (a_command c cs) ≡ put_before (front ++ c ∷ []) cs
put_one [] c cs = refl
put_one (x ∷ xs) c cs = ap (a_command x) (put_one xs c cs)

put_all : (front : List CommandTree) → put_before front no_commands ≡ commands_of front
put_all [] = refl
put_all (x ∷ xs) = ap (a_command x) (put_all xs)

pub size_more : (front : List CommandTree) (c : CommandTree) → commands_size (commands_of (front ++ c ∷ [])) ≡ commands_size (commands_of front) + command_size c
size_more [] c = omega arith
size_more (x ∷ xs) c = omega (arith, size_more xs c)

regroup : (front : List CommandTree) (c : CommandTree) (others : Option (CommandTrees × List ℕ)) →
    with_front front ((done (a_command c) <*> (λ _. others)) []) ≡ with_front (front ++ c ∷ []) others
regroup front c (Some y) = ap (λ (cs : CommandTrees). Some (cs, y.1)) (put_one front c y.0)
regroup front c None = refl

pub row_next : (one : ℕ → Reader CommandTree) (front : List CommandTree) (count i left : ℕ) (bytes : List ℕ) (c : CommandTree) (after : List ℕ) (total : Option (CommandTrees × List ℕ)) →
    i < count → one left bytes ≡ Some (c, after) → with_front front (row_at one (count - i) left bytes) ≡ total →
    with_front (front ++ c ∷ []) (row_at one (count - (i + 1)) (left - command_size c) after) ≡ total
unfolding row_at
row_next one front count i left bytes c after total lt h so_far =
    let k : count - i ≡ suc (count - (i + 1)) = omega arith in
    let step : with_front front (row_at one (count - i) left bytes) ≡ with_front (front ++ c ∷ []) (row_at one (count - (i + 1)) (left - command_size c) after) =
    rw (k, h) (regroup front c (row_at one (count - (i + 1)) (left - command_size c) after)) in
    sym step ∙ so_far

pub row_err : (e : WireFault) (one : ℕ → Reader CommandTree) (front : List CommandTree) (count i left : ℕ) (bytes : List ℕ) (total : Option (CommandTrees × List ℕ)) →
    i < count → Fails e (one left bytes) → with_front front (row_at one (count - i) left bytes) ≡ total → Fails e total
unfolding row_at
row_err NoMemory one front count i left bytes total lt h so_far = tt
row_err NotAMessage one front count i left bytes total lt h so_far =
    let k : count - i ≡ suc (count - (i + 1)) = omega arith in
    let step : with_front front (row_at one (count - i) left bytes) ≡ None = rw (k, h) refl in
    sym so_far ∙ step

pub row_end : (one : ℕ → Reader CommandTree) (front : List CommandTree) (count i left : ℕ) (bytes : List ℕ) (total : Option (CommandTrees × List ℕ)) →
    count ≤ i → with_front front (row_at one (count - i) left bytes) ≡ total → total ≡ Some (commands_of front, bytes)
unfolding row_at
row_end one front count i left bytes total le so_far =
    let k : count - i ≡ 0 = omega arith in
    let step : with_front front (row_at one (count - i) left bytes) ≡ Some (commands_of front, bytes) = rw k (ap (λ (cs : CommandTrees). Some (cs, bytes)) (put_all front)) in
    sym so_far ∙ step

pub how_many_are : (cs : List Command) → how_many (commands_of (map command_tree cs)) ≡ length cs
how_many_are [] = refl
how_many_are (c ∷ cs) = ap suc (how_many_are cs)
