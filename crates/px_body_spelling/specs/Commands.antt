-- Commands, which stand in each other, as bytes.
use Rattle.std.specs.Prelude.{ℕ, zero, suc, ◌-◌, List, [], ◌∷◌, ◌++◌, IfSome, ◌==◌, nat_lt, if◌then◌else◌, ⊤}
use Rattle.px_base.specs.declared.trace.Site.{Site}
use Rattle.px_core.specs.CommandTree.{CommandTree, CommandTrees, assign, unset, read, test, choose, loop, leave, load, store, malloc, free, input, call, return, break, continue, stop, no_commands, a_command, divide}
use Rattle.px_core.specs.Sizes.{command_size, commands_size}
use Rattle.px_spelling.specs.Reading.{Reader, ◌>>=◌, ◌<*>◌, done, nothing}
use Rattle.px_spelling.specs.Numbers.{u8_at, u32_bytes, IsU32, u32_at}
use Rattle.px_spelling.specs.Lists.{list_bytes, IsList, list_at, any_number, option_bytes, option_at}
use Rattle.px_spelling.specs.Traces.{proc_id_bytes, IsProcId, proc_id_at, field_id_bytes, IsFieldId, field_id_at, site_bytes, IsSite, site_at}
use Rattle.px_spelling.specs.Types.{type_id_bytes, IsTypeId, type_id_at}
use Rattle.px_spelling.specs.Operands.{operand_bytes, IsOperand, operand_at, operator_bytes, IsOperator, operator_at, comparison_bytes, IsComparison, comparison_at}

-- how many commands stand beside each other, those in them not counted
abbrev pub how_many : CommandTrees → ℕ
how_many no_commands = 0
how_many (a_command c rest) = suc (how_many rest)

-- a list: how many they are, and their bytes
abbrev pub counted_bytes : CommandTrees → List ℕ → List ℕ
counted_bytes cs bytes = u32_bytes (how_many cs) ++ bytes

abbrev mutual
  -- a command
  pub command_bytes : CommandTree → List ℕ
  command_bytes (assign to op a b) = 0 ∷ (u32_bytes to ++ operator_bytes op ++ operand_bytes a ++ operand_bytes b)
  command_bytes (unset to) = 1 ∷ u32_bytes to
  command_bytes (read slot site) = 2 ∷ (u32_bytes slot ++ site_bytes site)
  command_bytes (test to how a b site) = 3 ∷ (u32_bytes to ++ comparison_bytes how ++ operand_bytes a ++ operand_bytes b ++ site_bytes site)
  command_bytes (choose slot first second) = 4 ∷ (u32_bytes slot ++ (counted_bytes first (row_bytes first) ++ counted_bytes second (row_bytes second)))
  command_bytes (loop site head body step) = 5 ∷ (site_bytes site ++ (counted_bytes head (row_bytes head) ++ (counted_bytes body (row_bytes body) ++ counted_bytes step (row_bytes step))))
  command_bytes leave = 6 ∷ []
  command_bytes (load to at field block site) = 7 ∷ (u32_bytes to ++ operand_bytes at ++ field_id_bytes field ++ type_id_bytes block ++ site_bytes site)
  command_bytes (store at field block from site) = 8 ∷ (operand_bytes at ++ field_id_bytes field ++ type_id_bytes block ++ operand_bytes from ++ site_bytes site)
  command_bytes (malloc to block site) = 9 ∷ (u32_bytes to ++ type_id_bytes block ++ site_bytes site)
  command_bytes (free at block site) = 10 ∷ (operand_bytes at ++ type_id_bytes block ++ site_bytes site)
  command_bytes (input to site) = 11 ∷ (u32_bytes to ++ site_bytes site)
  command_bytes (call to proc arguments site) = 12 ∷ (option_bytes u32_bytes to ++ proc_id_bytes proc ++ list_bytes operand_bytes arguments ++ site_bytes site)
  command_bytes (return from) = 13 ∷ option_bytes operand_bytes from
  command_bytes break = 14 ∷ []
  command_bytes continue = 15 ∷ []
  command_bytes (stop word site) = 16 ∷ (u32_bytes word ++ site_bytes site)
  command_bytes (divide to a b site) = 17 ∷ (u32_bytes to ++ operand_bytes a ++ operand_bytes b ++ site_bytes site)

  -- commands one after another
  pub row_bytes : CommandTrees → List ℕ
  row_bytes no_commands = []
  row_bytes (a_command c rest) = command_bytes c ++ row_bytes rest

-- a list of commands
abbrev pub commands_bytes : CommandTrees → List ℕ
commands_bytes cs = counted_bytes cs (row_bytes cs)

-- the numbers of a command are in range, and so are those of the commands in it
abbrev mutual
  pub IsCommand : CommandTree → Type 0
  IsCommand (assign to op a b) = IsU32 to × IsOperator op × IsOperand a × IsOperand b
  IsCommand (unset to) = IsU32 to
  IsCommand (read slot site) = IsU32 slot × IsSite site
  IsCommand (test to how a b site) = IsU32 to × IsComparison how × IsOperand a × IsOperand b × IsSite site
  IsCommand (choose slot first second) = IsU32 slot × AreCommands first × AreCommands second
  IsCommand (loop site head body step) = IsSite site × AreCommands head × AreCommands body × AreCommands step
  IsCommand leave = ⊤
  IsCommand (load to at field block site) = IsU32 to × IsOperand at × IsFieldId field × IsTypeId block × IsSite site
  IsCommand (store at field block from site) = IsOperand at × IsFieldId field × IsTypeId block × IsOperand from × IsSite site
  IsCommand (malloc to block site) = IsU32 to × IsTypeId block × IsSite site
  IsCommand (free at block site) = IsOperand at × IsTypeId block × IsSite site
  IsCommand (input to site) = IsU32 to × IsSite site
  IsCommand (call to proc arguments site) = IfSome to IsU32 × IsProcId proc × IsList IsOperand any_number arguments × IsSite site
  IsCommand (return from) = IfSome from IsOperand
  IsCommand break = ⊤
  IsCommand continue = ⊤
  IsCommand (stop word site) = IsU32 word × IsSite site
  IsCommand (divide to a b site) = IsU32 to × IsOperand a × IsOperand b × IsSite site

  pub AreCommands : CommandTrees → Type 0
  AreCommands no_commands = ⊤
  AreCommands (a_command c rest) = IsCommand c × AreCommands rest

-- a command in which none stands, after its byte
unfoldable pub plain_with : ℕ → Reader CommandTree
plain_with tag =
    if tag == 0 then done assign <*> u32_at <*> operator_at <*> operand_at <*> operand_at else (
    if tag == 1 then done unset <*> u32_at else (
    if tag == 2 then done read <*> u32_at <*> site_at else (
    if tag == 3 then done test <*> u32_at <*> comparison_at <*> operand_at <*> operand_at <*> site_at else (
    if tag == 6 then done leave else (
    if tag == 7 then done load <*> u32_at <*> operand_at <*> field_id_at <*> type_id_at <*> site_at else (
    if tag == 8 then done store <*> operand_at <*> field_id_at <*> type_id_at <*> operand_at <*> site_at else (
    if tag == 9 then done malloc <*> u32_at <*> type_id_at <*> site_at else (
    if tag == 10 then done free <*> operand_at <*> type_id_at <*> site_at else (
    if tag == 11 then done input <*> u32_at <*> site_at else (
    if tag == 12 then done call <*> option_at u32_at <*> proc_id_at <*> list_at operand_at any_number <*> site_at else (
    if tag == 13 then done return <*> option_at operand_at else (
    if tag == 14 then done break else (
    if tag == 15 then done continue else (
    if tag == 16 then done stop <*> u32_at <*> site_at else (
    if tag == 17 then done divide <*> u32_at <*> operand_at <*> operand_at <*> site_at else nothing)))))))))))))))

-- Lists of commands are read by a reader that is handed in: of how many commands there is room for, those in others
-- counted. After a list there is as much room less as there are commands in it.

abbrev pub choose_after : (ℕ → Reader CommandTrees) → ℕ → ℕ → CommandTrees → Reader CommandTree
choose_after lists room slot first = done (choose slot first) <*> lists (room - commands_size first)

abbrev pub choose_with : (ℕ → Reader CommandTrees) → ℕ → ℕ → Reader CommandTree
choose_with lists room slot = lists room >>= choose_after lists room slot

unfoldable pub choose_at : (ℕ → Reader CommandTrees) → ℕ → Reader CommandTree
choose_at lists room = u32_at >>= choose_with lists room

abbrev pub loop_after : (ℕ → Reader CommandTrees) → ℕ → Site → CommandTrees → CommandTrees → Reader CommandTree
loop_after lists room site head body = done (loop site head body) <*> lists (room - commands_size head - commands_size body)

abbrev pub loop_from : (ℕ → Reader CommandTrees) → ℕ → Site → CommandTrees → Reader CommandTree
loop_from lists room site head = lists (room - commands_size head) >>= loop_after lists room site head

abbrev pub loop_with : (ℕ → Reader CommandTrees) → ℕ → Site → Reader CommandTree
loop_with lists room site = lists room >>= loop_from lists room site

unfoldable pub loop_at : (ℕ → Reader CommandTrees) → ℕ → Reader CommandTree
loop_at lists room = site_at >>= loop_with lists room

-- a command after its byte, where there is room for so many in it
unfoldable pub command_with : (ℕ → Reader CommandTrees) → ℕ → ℕ → Reader CommandTree
command_with lists room tag =
    if tag == 4 then choose_at lists room else (
    if tag == 5 then loop_at lists room else plain_with tag)

-- so many commands, where there is room for so many, those in others counted
abbrev pub row_after : (ℕ → Reader CommandTrees) → ℕ → CommandTree → Reader CommandTrees
row_after others room c = done (a_command c) <*> others (room - command_size c)

unfoldable pub row_at : (ℕ → Reader CommandTree) → ℕ → ℕ → Reader CommandTrees
row_at one zero room = done no_commands
row_at one (suc n) room = one room >>= row_after (row_at one n) room

-- a list of commands, as many as there is room for
abbrev pub counted_at : (ℕ → Reader CommandTree) → ℕ → ℕ → Reader CommandTrees
counted_at one room n = if nat_lt room n then nothing else row_at one n room

unfoldable pub list_by : (ℕ → Reader CommandTree) → ℕ → Reader CommandTrees
list_by one room = u32_at >>= counted_at one room

-- a command, where commands may still stand in each other so deep, and there is room for so many
unfoldable pub command_by : ℕ → ℕ → (ℕ → Reader CommandTrees) → Reader CommandTree
command_by depth room lists = if depth == 0 then nothing else (if room == 0 then nothing else (u8_at >>= command_with lists (room - 1)))

unfoldable pub command_at : ℕ → ℕ → Reader CommandTree
command_at zero room = nothing
command_at (suc depth) room = command_by (suc depth) room (list_by (command_at depth))

-- a list of commands
abbrev pub commands_at : ℕ → ℕ → Reader CommandTrees
commands_at depth room = list_by (command_at depth) room
