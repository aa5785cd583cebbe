-- Items whose bodies stand beside them.
use Rattle.std.proofs.Common.{◌≡◌, ◌∙◌, ℕ, suc, ◌+◌, List, [], ◌∷◌, ◌++◌, length, map, filter_map, Option, None, Some, is_none, option_to_list, option_and_then, refl, sym, ap, ap₂, arith}
use Rattle.std.specs.List.{cons_option}
use Rattle.std.specs.Option.{option_or}
use Rattle.px_syntax.specs.declared.type_name.TypeName.{TypeName}
use Rattle.std.proofs.lemmas.List.{map_push, length_push, length-map}
use Rattle.px_syntax.specs.declared.program.ParsedItem.{ParsedItem}
use Rattle.px_syntax.specs.declared.statement.Statement.{Statement}
use Rattle.px_syntax.specs.StatementTree.{StatementTree, statement_tree}
use Rattle.px_syntax.specs.ItemTree.{ItemTree, struct, declared, prototype, function}
use Rattle.px_syntax.specs.ParsedTree.{ParsedTree, parsed, out, parsed_tree}
use Rattle.px_syntax.specs.ProgramTree.{ProcedureTree}
use Rattle.px_bodies.specs.Environment.{Environment}
use Rattle.px_typing.specs.Declarations.{first_of, fields_by, defined_by, declared_by, kept_fields}
use Rattle.px_typing.specs.Keeping.{Judged, kept_tree, kept_trees}
use Rattle.px_typing.specs.Programs.{environment_in, procedure_of}
use Rattle.px_typing.specs.declared.apart.Apart.{Apart}
use Rattle.px_typing.specs.Apart.{whole, wholes, AreMore, is_kept, made_of, made_in}

-- ---- what a list has left, by its length

pub length_tail : {A : Type 0} (n m : ℕ) (xs ys : List A) (x : A) → n ≡ length xs → xs ≡ x ∷ ys → m + 1 ≡ n → m ≡ length ys
length_tail n m xs ys x h e k = let l : length xs ≡ suc (length ys) = ap length e in omega arith

-- ---- heads and bodies, one more

pub wholes-push : (hs : List ParsedTree) (bs : List (List StatementTree)) (h : ParsedTree) (b : List StatementTree) → length bs ≡ length hs →
    wholes (hs ++ h ∷ []) (bs ++ b ∷ []) ≡ wholes hs bs ++ whole h b ∷ []
wholes-push [] [] h b e = refl
wholes-push [] (c ∷ bs) h b e = absurd (omega arith)
wholes-push (g ∷ hs) [] h b e = absurd (omega arith)
wholes-push (g ∷ hs) (c ∷ bs) h b e = ap (λ ts. whole g c ∷ ts) (wholes-push hs bs h b (omega arith))

pub length-wholes : (hs : List ParsedTree) (bs : List (List StatementTree)) → length bs ≡ length hs → length (wholes hs bs) ≡ length hs
length-wholes [] bs e = refl
length-wholes (h ∷ hs) [] e = absurd (omega arith)
length-wholes (h ∷ hs) (b ∷ bs) e = ap suc (length-wholes hs bs (omega arith))

pub apart_more : (old new : Apart) (item : ParsedTree) (h : ParsedItem) (b : List Statement) → new.heads.items ≡ old.heads.items ++ h ∷ [] → new.bodies.items ≡ old.bodies.items ++ b ∷ [] →
    whole (parsed_tree h) (map statement_tree b) ≡ item → AreMore old new (item ∷ [])
apart_more old new item h b eh eb e before a =
    let hs = map parsed_tree old.heads.items in
    let bs = map (map statement_tree) old.bodies.items in
    let long : length bs ≡ length hs = length-map old.bodies.items (map statement_tree) ∙ a.as_many ∙ sym (length-map old.heads.items parsed_tree) in
    record {
      as_many = ap length eb ∙ length_push old.bodies.items b ∙ ap (λ n. n + 1) a.as_many ∙ sym (length_push old.heads.items h) ∙ sym (ap length eh);
      together =
          ap₂ wholes (ap (map parsed_tree) eh ∙ map_push parsed_tree old.heads.items h) (ap (map (map statement_tree)) eb ∙ map_push (map statement_tree) old.bodies.items b)
          ∙ wholes-push hs bs (parsed_tree h) (map statement_tree b) long
          ∙ ap₂ (λ ts t. ts ++ t ∷ []) a.together e;
    }

-- ---- what items say doesn't depend on bodies

fields_same : (tag : List ℕ) (h : ParsedTree) (b : List StatementTree) → fields_by tag h ≡ fields_by tag (whole h b)
fields_same tag (parsed (struct site name ds)) b = refl
fields_same tag (parsed (declared site name)) b = refl
fields_same tag (parsed (prototype site result name ps)) b = refl
fields_same tag (parsed (function site result name ps body)) b = refl
fields_same tag (out name site word) b = refl

defined_same : (name : List ℕ) (h : ParsedTree) (b : List StatementTree) → defined_by name h ≡ defined_by name (whole h b)
defined_same name (parsed (struct site tag ds)) b = refl
defined_same name (parsed (declared site tag)) b = refl
defined_same name (parsed (prototype site result own ps)) b = refl
defined_same name (parsed (function site result own ps body)) b = refl
defined_same name (out own site word) b = refl

declared_same : (name : List ℕ) (h : ParsedTree) (b : List StatementTree) → declared_by name h ≡ declared_by name (whole h b)
declared_same name (parsed (struct site tag ds)) b = refl
declared_same name (parsed (declared site tag)) b = refl
declared_same name (parsed (prototype site result own ps)) b = refl
declared_same name (parsed (function site result own ps body)) b = refl
declared_same name (out own site word) b = refl

first_same : {B : Type 0} (says : ParsedTree → Option B) → ((h : ParsedTree) (b : List StatementTree) → says h ≡ says (whole h b)) →
    (hs : List ParsedTree) (bs : List (List StatementTree)) → length bs ≡ length hs → first_of says hs ≡ first_of says (wholes hs bs)
first_same says same [] bs e = refl
first_same says same (h ∷ hs) [] e = absurd (omega arith)
first_same says same (h ∷ hs) (b ∷ bs) e = ap₂ (λ o p. option_or o p) (same h b) (first_same says same hs bs (omega arith))

pub environment_same : (hs : List ParsedTree) (bs : List (List StatementTree)) → length bs ≡ length hs → (types : List TypeName) (names : List (List ℕ)) →
    environment_in hs types names ≡ environment_in (wholes hs bs) types names
environment_same hs bs e types names = λ i. record (environment_in hs types names) {
  fields = λ tag. option_and_then kept_fields (first_same (fields_by tag) (fields_same tag) hs bs e i);
  signature = λ name. option_or (first_same (defined_by name) (defined_same name) hs bs e i) (first_same (declared_by name) (declared_same name) hs bs e i);
}

-- ---- the procedures of what is kept

-- an item that is judged, before others
made_before : (env : Environment) (t : ParsedTree) (word : Option (List ℕ)) (more : List ProcedureTree) (trees : List ItemTree) → more ≡ filter_map (procedure_of env) trees →
    option_to_list (made_of env t (is_none word)) ++ more ≡ filter_map (procedure_of env) (cons_option (kept_tree (record { item = t; word = word })) trees)
made_before env (parsed item) None more trees e = one (procedure_of env item)
  where
    one : (p : Option ProcedureTree) → option_to_list p ++ more ≡ cons_option p (filter_map (procedure_of env) trees)
    one None = e
    one (Some x) = ap (λ ps. x ∷ ps) e
made_before env (out name site word) None more trees e = e
made_before env t (Some word) more trees e = e

pub made_judged : (env : Environment) (js : List Judged) → made_in env (map (λ j. j.item) js) (map is_kept js) ≡ filter_map (procedure_of env) (kept_trees js)
made_judged env [] = refl
made_judged env (j ∷ js) = made_before env j.item j.word (made_in env (map (λ k. k.item) js) (map is_kept js)) (kept_trees js) (made_judged env js)
