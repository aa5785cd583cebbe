-- Commands are read again as they were written.
use Rattle.std.proofs.Common.{◌≡◌, ℕ, zero, suc, ◌-◌, ◌≤◌, ◌<◌, ◌^◌, List, [], ◌∷◌, ◌++◌, false, ltb, refl, arith}
use Rattle.std.specs.Prelude.{◌==◌}
use Rattle.std.proofs.lemmas.Bool.{le-ltb}
use Rattle.std.proofs.lemmas.Bool.Decides.{nat_tests}
use Rattle.px_base.specs.declared.trace.Site.{Site}
use Rattle.px_core.specs.CommandTree.{CommandTree, CommandTrees, assign, unset, read, test, choose, loop, leave, load, store, malloc, free, input, call, return, break, continue, stop, no_commands, a_command, divide}
use Rattle.px_core.specs.Sizes.{command_size, commands_size}
use Rattle.px_spelling.specs.Reading.{Reader}
use Rattle.px_spelling.specs.Numbers.{u8_at, u32_bytes, IsU32, u32_at}
use Rattle.px_spelling.specs.Lists.{any_number}
use Rattle.px_spelling.specs.Traces.{site_bytes, IsSite, site_at}
use Rattle.px_spelling.specs.Operands.{operand_bytes, IsOperand, operand_at}
use Rattle.px_spelling.proofs.RoundTrip.{ReadsAs, done_reads, then_reads, ◌⊛◌, u32_round_trip, list_round_trip, option_round_trip}
use Rattle.px_spelling.proofs.TraceRoundTrips.{proc_id_round_trip, field_id_round_trip, site_round_trip}
use Rattle.px_spelling.proofs.TypeRoundTrips.{type_id_round_trip}
use Rattle.px_spelling.proofs.OperandRoundTrips.{operand_round_trip, operator_round_trip, comparison_round_trip}
use Rattle.px_body_spelling.specs.Commands.{how_many, command_bytes, row_bytes, commands_bytes, IsCommand, AreCommands, plain_with, choose_at, choose_with, choose_after, loop_at, loop_with, loop_from, loop_after, command_with, row_at, row_after, counted_at, list_by, command_by, command_at}

-- ---- sizes

pub some_size : (c : CommandTree) → 1 ≤ command_size c
some_size (choose slot first second) = omega arith
some_size (loop site head body step) = omega arith
some_size (assign to op a b) = omega arith
some_size (unset to) = omega arith
some_size (read slot site) = omega arith
some_size (test to how a b site) = omega arith
some_size leave = omega arith
some_size (load to at field block site) = omega arith
some_size (store at field block from site) = omega arith
some_size (malloc to block site) = omega arith
some_size (free at block site) = omega arith
some_size (input to site) = omega arith
some_size (call to proc arguments site) = omega arith
some_size (return from) = omega arith
some_size break = omega arith
some_size continue = omega arith
some_size (stop word site) = omega arith
some_size (divide to a b site) = omega arith

pub how_many_fit : (cs : CommandTrees) → how_many cs ≤ commands_size cs
how_many_fit no_commands = omega arith
how_many_fit (a_command c rest) = omega (arith, some_size c, how_many_fit rest)

-- ---- a command after its byte

pub not_zero : (n : ℕ) → (suc n == 0) ≡ false
not_zero n = grind (arith, nat_tests)

opened : (tag : ℕ) (b : List ℕ) (c : CommandTree) (depth room : ℕ) → 1 ≤ depth → 1 ≤ room →
    ((d r : ℕ) → depth ≡ suc d → room ≡ suc r → ReadsAs (command_with (list_by (command_at d)) r tag) b c) → ReadsAs (command_at depth room) (tag ∷ b) c
unfolding u8_at command_by command_at
opened tag b c zero room deep some inside = absurd (omega (arith, deep))
opened tag b c (suc d) zero deep some inside = absurd (omega (arith, some))
opened tag b c (suc d) (suc r) deep some inside =
    let e : suc r - 1 ≡ r = omega arith in
    record { reads = λ rest. rw (not_zero d, not_zero r, e) ((inside d r refl refl).reads rest) }

plain_round_trip : (tag : ℕ) (b : List ℕ) (c : CommandTree) (depth room : ℕ) → (tag == 4) ≡ false → (tag == 5) ≡ false → 1 ≤ depth → 1 ≤ room →
    ReadsAs (plain_with tag) b c → ReadsAs (command_at depth room) (tag ∷ b) c
unfolding command_with
plain_round_trip tag b c depth room four five deep some h = opened tag b c depth room deep some (λ d r ed er. rw (four, five) h)

-- ---- lists of commands

lists_round_trip : (one : ℕ → Reader CommandTree) (room : ℕ) (cs : CommandTrees) → room < 2 ^ 32 → commands_size cs ≤ room →
    ReadsAs (row_at one (how_many cs) room) (row_bytes cs) cs → ReadsAs (list_by one room) (commands_bytes cs) cs
unfolding list_by
lists_round_trip one room cs fits small h =
    let short : ltb room (how_many cs) ≡ false = le-ltb _ _ (omega (arith, how_many_fit cs, small)) in
    then_reads u32_at (counted_at one room) (u32_bytes (how_many cs)) (row_bytes cs) (how_many cs) cs
    (u32_round_trip (how_many cs) (omega (arith, how_many_fit cs, small, fits))) (rw short h)

choose_round_trip : (lists : ℕ → Reader CommandTrees) (room slot : ℕ) (first second : CommandTrees) → IsU32 slot →
    ReadsAs (lists room) (commands_bytes first) first → ReadsAs (lists (room - commands_size first)) (commands_bytes second) second →
    ReadsAs (choose_at lists room) (u32_bytes slot ++ (commands_bytes first ++ commands_bytes second)) (choose slot first second)
unfolding choose_at
choose_round_trip lists room slot first second fits h k =
    then_reads u32_at (choose_with lists room) (u32_bytes slot) (commands_bytes first ++ commands_bytes second) slot (choose slot first second) (u32_round_trip slot fits)
    (then_reads (lists room) (choose_after lists room slot) (commands_bytes first) (commands_bytes second) first (choose slot first second) h
    (done_reads (choose slot first) ⊛ k))

loop_round_trip : (lists : ℕ → Reader CommandTrees) (room : ℕ) (site : Site) (head body step : CommandTrees) → IsSite site →
    ReadsAs (lists room) (commands_bytes head) head → ReadsAs (lists (room - commands_size head)) (commands_bytes body) body →
    ReadsAs (lists (room - commands_size head - commands_size body)) (commands_bytes step) step →
    ReadsAs (loop_at lists room) (site_bytes site ++ (commands_bytes head ++ (commands_bytes body ++ commands_bytes step))) (loop site head body step)
unfolding loop_at
loop_round_trip lists room site head body step fits h k m =
    then_reads site_at (loop_with lists room) (site_bytes site) (commands_bytes head ++ (commands_bytes body ++ commands_bytes step)) site (loop site head body step) (site_round_trip site fits)
    (then_reads (lists room) (loop_from lists room site) (commands_bytes head) (commands_bytes body ++ commands_bytes step) head (loop site head body step) h
    (then_reads (lists (room - commands_size head)) (loop_after lists room site head) (commands_bytes body) (commands_bytes step) body (loop site head body step) k
    (done_reads (loop site head body) ⊛ m)))

row_more : (one : ℕ → Reader CommandTree) (room : ℕ) (c : CommandTree) (rest : CommandTrees) → ReadsAs (one room) (command_bytes c) c →
    ReadsAs (row_at one (how_many rest) (room - command_size c)) (row_bytes rest) rest →
    ReadsAs (row_at one (suc (how_many rest)) room) (command_bytes c ++ row_bytes rest) (a_command c rest)
unfolding row_at
row_more one room c rest h k =
    then_reads (one room) (row_after (row_at one (how_many rest)) room) (command_bytes c) (row_bytes rest) c (a_command c rest) h (done_reads (a_command c) ⊛ k)

row_none : (one : ℕ → Reader CommandTree) (room : ℕ) → ReadsAs (row_at one 0 room) [] no_commands
unfolding row_at
row_none one room = done_reads no_commands

-- ---- all of them

mutual
  unfolding plain_with command_with

  -- where the commands may stand in each other as deep as there are commands, and there is room for them
  pub command_round_trip : (c : CommandTree) → IsCommand c → (depth room : ℕ) → room < 2 ^ 32 → command_size c ≤ depth → command_size c ≤ room → ReadsAs (command_at depth room) (command_bytes c) c
  command_round_trip (assign to op a b) fits depth room word deep small = plain_round_trip 0 _ _ depth room refl refl deep small
      (done_reads assign ⊛ u32_round_trip to fits.0 ⊛ operator_round_trip op fits.1 ⊛ operand_round_trip a fits.2 ⊛ operand_round_trip b fits.3)
  command_round_trip (unset to) fits depth room word deep small = plain_round_trip 1 _ _ depth room refl refl deep small (done_reads unset ⊛ u32_round_trip to fits)
  command_round_trip (read slot site) fits depth room word deep small = plain_round_trip 2 _ _ depth room refl refl deep small (done_reads read ⊛ u32_round_trip slot fits.0 ⊛ site_round_trip site fits.1)
  command_round_trip (test to how a b site) fits depth room word deep small = plain_round_trip 3 _ _ depth room refl refl deep small
      (done_reads test ⊛ u32_round_trip to fits.0 ⊛ comparison_round_trip how fits.1 ⊛ operand_round_trip a fits.2 ⊛ operand_round_trip b fits.3 ⊛ site_round_trip site fits.4)
  command_round_trip (choose slot first second) fits depth room word deep small = opened 4 _ (choose slot first second) depth room (omega (arith, deep)) (omega (arith, small)) (λ d r ed er.
      choose_round_trip (list_by (command_at d)) r slot first second fits.0
      (lists_round_trip (command_at d) r first (omega (arith, word, er)) (omega (arith, small, er)) (row_round_trip first fits.1 d r (omega (arith, word, er)) (omega (arith, deep, ed)) (omega (arith, small, er))))
      (lists_round_trip (command_at d) (r - commands_size first) second (omega (arith, word, er)) (omega (arith, small, er))
      (row_round_trip second fits.2 d (r - commands_size first) (omega (arith, word, er)) (omega (arith, deep, ed)) (omega (arith, small, er)))))
  command_round_trip (loop site head body step) fits depth room word deep small = opened 5 _ (loop site head body step) depth room (omega (arith, deep)) (omega (arith, small)) (λ d r ed er.
      loop_round_trip (list_by (command_at d)) r site head body step fits.0
      (lists_round_trip (command_at d) r head (omega (arith, word, er)) (omega (arith, small, er)) (row_round_trip head fits.1 d r (omega (arith, word, er)) (omega (arith, deep, ed)) (omega (arith, small, er))))
      (lists_round_trip (command_at d) (r - commands_size head) body (omega (arith, word, er)) (omega (arith, small, er))
      (row_round_trip body fits.2 d (r - commands_size head) (omega (arith, word, er)) (omega (arith, deep, ed)) (omega (arith, small, er))))
      (lists_round_trip (command_at d) (r - commands_size head - commands_size body) step (omega (arith, word, er)) (omega (arith, small, er))
      (row_round_trip step fits.3 d (r - commands_size head - commands_size body) (omega (arith, word, er)) (omega (arith, deep, ed)) (omega (arith, small, er)))))
  command_round_trip leave fits depth room word deep small = plain_round_trip 6 _ _ depth room refl refl deep small (done_reads leave)
  command_round_trip (load to at field block site) fits depth room word deep small = plain_round_trip 7 _ _ depth room refl refl deep small
      (done_reads load ⊛ u32_round_trip to fits.0 ⊛ operand_round_trip at fits.1 ⊛ field_id_round_trip field fits.2 ⊛ type_id_round_trip block fits.3 ⊛ site_round_trip site fits.4)
  command_round_trip (store at field block from site) fits depth room word deep small = plain_round_trip 8 _ _ depth room refl refl deep small
      (done_reads store ⊛ operand_round_trip at fits.0 ⊛ field_id_round_trip field fits.1 ⊛ type_id_round_trip block fits.2 ⊛ operand_round_trip from fits.3 ⊛ site_round_trip site fits.4)
  command_round_trip (malloc to block site) fits depth room word deep small = plain_round_trip 9 _ _ depth room refl refl deep small
      (done_reads malloc ⊛ u32_round_trip to fits.0 ⊛ type_id_round_trip block fits.1 ⊛ site_round_trip site fits.2)
  command_round_trip (free at block site) fits depth room word deep small = plain_round_trip 10 _ _ depth room refl refl deep small
      (done_reads free ⊛ operand_round_trip at fits.0 ⊛ type_id_round_trip block fits.1 ⊛ site_round_trip site fits.2)
  command_round_trip (input to site) fits depth room word deep small = plain_round_trip 11 _ _ depth room refl refl deep small (done_reads input ⊛ u32_round_trip to fits.0 ⊛ site_round_trip site fits.1)
  command_round_trip (call to proc arguments site) fits depth room word deep small = plain_round_trip 12 _ _ depth room refl refl deep small
      (done_reads call ⊛ option_round_trip u32_bytes IsU32 u32_at u32_round_trip to fits.0 ⊛ proc_id_round_trip proc fits.1
      ⊛ list_round_trip operand_bytes IsOperand operand_at any_number operand_round_trip arguments fits.2 ⊛ site_round_trip site fits.3)
  command_round_trip (return from) fits depth room word deep small = plain_round_trip 13 _ _ depth room refl refl deep small
      (done_reads return ⊛ option_round_trip operand_bytes IsOperand operand_at operand_round_trip from fits)
  command_round_trip break fits depth room word deep small = plain_round_trip 14 _ _ depth room refl refl deep small (done_reads break)
  command_round_trip continue fits depth room word deep small = plain_round_trip 15 _ _ depth room refl refl deep small (done_reads continue)
  command_round_trip (stop number site) fits depth room word deep small = plain_round_trip 16 _ _ depth room refl refl deep small (done_reads stop ⊛ u32_round_trip number fits.0 ⊛ site_round_trip site fits.1)
  command_round_trip (divide to a b site) fits depth room word deep small = plain_round_trip 17 _ _ depth room refl refl deep small
      (done_reads divide ⊛ u32_round_trip to fits.0 ⊛ operand_round_trip a fits.1 ⊛ operand_round_trip b fits.2 ⊛ site_round_trip site fits.3)

  pub row_round_trip : (cs : CommandTrees) → AreCommands cs → (depth room : ℕ) → room < 2 ^ 32 → commands_size cs ≤ depth → commands_size cs ≤ room →
      ReadsAs (row_at (command_at depth) (how_many cs) room) (row_bytes cs) cs
  row_round_trip no_commands fits depth room word deep small = row_none (command_at depth) room
  row_round_trip (a_command c rest) fits depth room word deep small = row_more (command_at depth) room c rest
      (command_round_trip c fits.0 depth room word (omega (arith, deep)) (omega (arith, small)))
      (row_round_trip rest fits.1 depth (room - command_size c) (omega (arith, word)) (omega (arith, deep)) (omega (arith, small)))

pub commands_round_trip : (cs : CommandTrees) → AreCommands cs → (depth room : ℕ) → room < 2 ^ 32 → commands_size cs ≤ depth → commands_size cs ≤ room →
    ReadsAs (list_by (command_at depth) room) (commands_bytes cs) cs
commands_round_trip cs fits depth room word deep small = lists_round_trip (command_at depth) room cs word small (row_round_trip cs fits depth room word deep small)
