-- Commands that are read are spelled by the bytes that they took, and no more than there is room for.
use Rattle.std.proofs.Common.{◌≡◌, ℕ, zero, suc, ◌-◌, ◌≤◌, List, ◌∷◌, ◌++◌, Bool, true, false, refl, ap, arith}
use Rattle.std.specs.Prelude.{nat_lt, if◌then◌else◌}
use Rattle.px_core.specs.CommandTree.{CommandTree, CommandTrees, assign, unset, read, test, choose, loop, leave, load, store, malloc, free, input, call, return, break, continue, stop, no_commands, a_command, divide}
use Rattle.px_core.specs.Sizes.{command_size, commands_size}
use Rattle.px_spelling.specs.Reading.{Reader, done, nothing}
use Rattle.px_spelling.specs.Numbers.{u32_bytes, IsU32, u32_at}
use Rattle.px_spelling.specs.Lists.{any_number}
use Rattle.px_spelling.specs.Traces.{site_bytes, IsSite, site_at}
use Rattle.px_spelling.specs.Operands.{operand_bytes, IsOperand, operand_at}
use Rattle.px_body_spelling.specs.Commands.{how_many, command_bytes, row_bytes, commands_bytes, IsCommand, AreCommands, plain_with, choose_at, choose_with, choose_after, loop_at, loop_with, loop_from, loop_after, command_with, row_at, row_after, counted_at, list_by, command_by, command_at}
use Rattle.px_body_spelling.proofs.CommandRoundTrips.{not_zero}
use Rattle.px_body_spelling.proofs.Spells.{Is, Spelled, done_spelled, nothing_spelled, bind_spelled, app_spelled, weaker, ◌⊛◌, by_tag, tagged_spelled, u32_spelled, list_spelled, option_spelled}
use Rattle.px_body_spelling.proofs.PartsSpelled.{proc_id_spelled, field_id_spelled, type_id_spelled, site_spelled, operand_spelled, operator_spelled, comparison_spelled}

-- a command of at most so many commands, and its spelling
abbrev pub CommandOf : ℕ → CommandTree → List ℕ → Type 0
CommandOf room c text = (text ≡ command_bytes c) × IsCommand c × (command_size c ≤ room)

abbrev pub CommandsOf : ℕ → CommandTrees → List ℕ → Type 0
CommandsOf room cs text = (text ≡ commands_bytes cs) × AreCommands cs × (commands_size cs ≤ room)

abbrev RowOf : ℕ → ℕ → CommandTrees → List ℕ → Type 0
RowOf n room cs text = (text ≡ row_bytes cs) × (how_many cs ≡ n) × AreCommands cs × (commands_size cs ≤ room)

-- ---- commands in which none stands

abbrev PlainOf : ℕ → CommandTree → List ℕ → Type 0
PlainOf tag c text = (tag ∷ text ≡ command_bytes c) × IsCommand c × (command_size c ≡ 1)

plain_spelled : (tag : ℕ) → Spelled (plain_with tag) (PlainOf tag)
unfolding plain_with
plain_spelled tag =
    by_tag tag 0 _ _ PlainOf (done_spelled assign (λ to p op q a r b s. (refl, (p, q, r, s), refl)) ⊛ u32_spelled ⊛ operator_spelled ⊛ operand_spelled ⊛ operand_spelled)
    (by_tag tag 1 _ _ PlainOf (done_spelled unset (λ to p. (refl, p, refl)) ⊛ u32_spelled)
    (by_tag tag 2 _ _ PlainOf (done_spelled read (λ slot p site q. (refl, (p, q), refl)) ⊛ u32_spelled ⊛ site_spelled)
    (by_tag tag 3 _ _ PlainOf (done_spelled test (λ to p how q a r b s site t. (refl, (p, q, r, s, t), refl)) ⊛ u32_spelled ⊛ comparison_spelled ⊛ operand_spelled ⊛ operand_spelled ⊛ site_spelled)
    (by_tag tag 6 _ _ PlainOf (done_spelled leave (refl, tt, refl))
    (by_tag tag 7 _ _ PlainOf (done_spelled load (λ to p at q field r block s site t. (refl, (p, q, r, s, t), refl)) ⊛ u32_spelled ⊛ operand_spelled ⊛ field_id_spelled ⊛ type_id_spelled ⊛ site_spelled)
    (by_tag tag 8 _ _ PlainOf (done_spelled store (λ at p field q block r from s site t. (refl, (p, q, r, s, t), refl)) ⊛ operand_spelled ⊛ field_id_spelled ⊛ type_id_spelled ⊛ operand_spelled ⊛ site_spelled)
    (by_tag tag 9 _ _ PlainOf (done_spelled malloc (λ to p block q site r. (refl, (p, q, r), refl)) ⊛ u32_spelled ⊛ type_id_spelled ⊛ site_spelled)
    (by_tag tag 10 _ _ PlainOf (done_spelled free (λ at p block q site r. (refl, (p, q, r), refl)) ⊛ operand_spelled ⊛ type_id_spelled ⊛ site_spelled)
    (by_tag tag 11 _ _ PlainOf (done_spelled input (λ to p site q. (refl, (p, q), refl)) ⊛ u32_spelled ⊛ site_spelled)
    (by_tag tag 12 _ _ PlainOf (done_spelled call (λ to p proc q arguments r site s. (refl, (p, q, r, s), refl)) ⊛ option_spelled u32_at u32_bytes IsU32 u32_spelled ⊛ proc_id_spelled
    ⊛ list_spelled operand_at operand_bytes IsOperand any_number operand_spelled ⊛ site_spelled)
    (by_tag tag 13 _ _ PlainOf (done_spelled return (λ from p. (refl, p, refl)) ⊛ option_spelled operand_at operand_bytes IsOperand operand_spelled)
    (by_tag tag 14 _ _ PlainOf (done_spelled break (refl, tt, refl))
    (by_tag tag 15 _ _ PlainOf (done_spelled continue (refl, tt, refl))
    (by_tag tag 16 _ _ PlainOf (done_spelled stop (λ word p site q. (refl, (p, q), refl)) ⊛ u32_spelled ⊛ site_spelled)
    (by_tag tag 17 _ _ PlainOf (done_spelled divide (λ to p a q b r site s. (refl, (p, q, r, s), refl)) ⊛ u32_spelled ⊛ operand_spelled ⊛ operand_spelled ⊛ site_spelled) nothing_spelled)))))))))))))))

-- ---- commands in which others stand, where the lists in them are known to be spelled

abbrev Lists : (ℕ → Reader CommandTrees) → Type 0
Lists lists = (room : ℕ) → Spelled (lists room) (CommandsOf room)

choose_spelled : (lists : ℕ → Reader CommandTrees) → Lists lists → (room : ℕ) → Spelled (choose_at lists room) (λ c u. CommandOf (suc room) c (4 ∷ u))
unfolding choose_at
choose_spelled lists h room =
    bind_spelled u32_at (choose_with lists room) (Is u32_bytes IsU32) (λ c u. CommandOf (suc room) c (4 ∷ u)) u32_spelled.said (λ slot t q.
    bind_spelled (lists room) (choose_after lists room slot) (CommandsOf room) (λ c u. CommandOf (suc room) c (4 ∷ (t ++ u))) (h room) (λ first v k.
    app_spelled (done (choose slot first)) (lists (room - commands_size first)) (CommandsOf (room - commands_size first)) (λ c u. CommandOf (suc room) c (4 ∷ (t ++ (v ++ u))))
    (done_spelled (choose slot first) (λ second w m. (rw (q.0, k.0, m.0) refl, (q.1, k.1, m.1), omega (arith, k.2, m.2)))) (h (room - commands_size first))))

loop_spelled : (lists : ℕ → Reader CommandTrees) → Lists lists → (room : ℕ) → Spelled (loop_at lists room) (λ c u. CommandOf (suc room) c (5 ∷ u))
unfolding loop_at
loop_spelled lists h room =
    bind_spelled site_at (loop_with lists room) (Is site_bytes IsSite) (λ c u. CommandOf (suc room) c (5 ∷ u)) site_spelled.said (λ site t q.
    bind_spelled (lists room) (loop_from lists room site) (CommandsOf room) (λ c u. CommandOf (suc room) c (5 ∷ (t ++ u))) (h room) (λ head v k.
    bind_spelled (lists (room - commands_size head)) (loop_after lists room site head) (CommandsOf (room - commands_size head)) (λ c u. CommandOf (suc room) c (5 ∷ (t ++ (v ++ u)))) (h (room - commands_size head)) (λ body w m.
    app_spelled (done (loop site head body)) (lists (room - commands_size head - commands_size body)) (CommandsOf (room - commands_size head - commands_size body)) (λ c u. CommandOf (suc room) c (5 ∷ (t ++ (v ++ (w ++ u)))))
    (done_spelled (loop site head body) (λ step z n. (rw (q.0, k.0, m.0, n.0) refl, (q.1, k.1, m.1, n.1), omega (arith, k.2, m.2, n.2)))) (h (room - commands_size head - commands_size body)))))

with_spelled : (lists : ℕ → Reader CommandTrees) → Lists lists → (room tag : ℕ) → Spelled (command_with lists room tag) (λ c u. CommandOf (suc room) c (tag ∷ u))
unfolding command_with
with_spelled lists h room tag =
    by_tag tag 4 _ _ (λ tag c u. CommandOf (suc room) c (tag ∷ u)) (choose_spelled lists h room)
    (by_tag tag 5 _ _ (λ tag c u. CommandOf (suc room) c (tag ∷ u)) (loop_spelled lists h room)
    (weaker (plain_with tag) (PlainOf tag) (λ c u. CommandOf (suc room) c (tag ∷ u)) (λ c u k. (k.0, k.1, omega (arith, k.2))) (plain_spelled tag)))

-- ---- lists, where commands are known to be spelled

module _ (one : ℕ → Reader CommandTree) (each : (room : ℕ) → Spelled (one room) (CommandOf room)) where
  row_spelled : (n room : ℕ) → Spelled (row_at one n room) (RowOf n room)
  unfolding row_at
  row_spelled zero room = done_spelled no_commands (refl, refl, tt, omega arith)
  row_spelled (suc n) room =
      bind_spelled (one room) (row_after (row_at one n) room) (CommandOf room) (RowOf (suc n) room) (each room) (λ c t k.
      app_spelled (done (a_command c)) (row_at one n (room - command_size c)) (RowOf n (room - command_size c)) (λ cs u. RowOf (suc n) room cs (t ++ u))
      (done_spelled (a_command c) (λ rest u m. (rw (k.0, m.0) refl, ap suc m.1, (k.1, m.2), omega (arith, k.2, m.3)))) (row_spelled n (room - command_size c)))

  counted_spelled : (room n : ℕ) (t : List ℕ) → Is u32_bytes IsU32 n t → (b : Bool) → Spelled (if b then nothing else row_at one n room) (λ cs u. CommandsOf room cs (t ++ u))
  counted_spelled room n t q true = nothing_spelled
  counted_spelled room n t q false = weaker (row_at one n room) (RowOf n room) (λ cs u. CommandsOf room cs (t ++ u)) (λ cs u k. (rw (q.0, k.0, k.1) refl, k.2, k.3)) (row_spelled n room)

  pub lists_spelled : Lists (list_by one)
  unfolding list_by
  lists_spelled room = bind_spelled u32_at (counted_at one room) (Is u32_bytes IsU32) (CommandsOf room) u32_spelled.said (λ n t q. counted_spelled room n t q (nat_lt room n))

-- ---- at any depth

by_spelled : (lists : ℕ → Reader CommandTrees) → Lists lists → (depth room : ℕ) → Spelled (command_by (suc depth) room lists) (CommandOf room)
unfolding command_by
by_spelled lists h depth zero = rw (not_zero depth) nothing_spelled
by_spelled lists h depth (suc room) =
    let e : suc room - 1 ≡ room = omega arith in
    rw (not_zero depth, not_zero room, e) (tagged_spelled (command_with lists room) (CommandOf (suc room)) (with_spelled lists h room))

pub command_spelled : (depth room : ℕ) → Spelled (command_at depth room) (CommandOf room)
unfolding command_at
command_spelled zero room = nothing_spelled
command_spelled (suc depth) room = by_spelled (list_by (command_at depth)) (lists_spelled (command_at depth) (command_spelled depth)) depth room
