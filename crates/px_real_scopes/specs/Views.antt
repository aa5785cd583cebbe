-- What the code has, as plain data.
use Rattle.std.specs.Prelude.{List, map, reverse}
use Rattle.px_real_scopes.specs.declared.meaning.Function.{Function}
use Rattle.px_real_scopes.specs.declared.meaning.Meaning.{Meaning}
use Rattle.px_real_scopes.specs.declared.meaning.Meaning.TheVariants as M
use Rattle.px_real_scopes.specs.declared.meaning.Tag.{Tag}
use Rattle.px_real_scopes.specs.declared.meaning.Tag.TheVariants as T
use Rattle.px_real_scopes.specs.declared.meaning.Binding.{Binding}
use Rattle.px_real_scopes.specs.declared.meaning.Binding.TheVariants as B
use Rattle.px_real_scopes.specs.declared.meaning.NamedMember.{NamedMember}
use Rattle.px_real_scopes.specs.declared.meaning.Definition.{Definition}
use Rattle.px_real_scopes.specs.Scopes.{FunctionTree, MeaningTree, a_type, an_enumerator, an_object, a_function, a_local, TagTree, a_record, an_enumeration, BindingTree, begins_block, of_name, of_tag, of_place, NamedTree, DefinitionTree}

abbrev pub function_view : Function → FunctionTree
function_view f = record { parameters = f.parameters.items; takes_more = f.takes_more; result = f.result }

abbrev pub meaning_view : Meaning → MeaningTree
meaning_view (M.Type known) = a_type known
meaning_view (M.Enumerator value) = an_enumerator value
meaning_view (M.Object known word) = an_object known word
meaning_view (M.Function function word) = a_function (function_view function) word
meaning_view (M.Local number kind) = a_local number kind

abbrev pub tag_view : Tag → TagTree
tag_view (T.Record number) = a_record number
tag_view T.Enumeration = an_enumeration

abbrev pub binding_view : Binding → BindingTree
binding_view B.Block = begins_block
binding_view (B.Name name meaning) = of_name name (meaning_view meaning)
binding_view (B.Tag name tag) = of_tag name (tag_view tag)
binding_view (B.Place site number) = of_place site number

-- the nearest first
abbrev pub bindings_view : List Binding → List BindingTree
bindings_view bs = reverse (map binding_view bs)

abbrev pub member_view : NamedMember → NamedTree
member_view m = record { name = m.name; member = m.member }

abbrev pub definition_view : Definition → DefinitionTree
definition_view d = record { number = d.number; members = map member_view d.members.items }

-- the last first
abbrev pub definitions_view : List Definition → List DefinitionTree
definitions_view ds = reverse (map definition_view ds)
