-- A program from its plan and its procedures.
use Rattle.std.proofs.Common.{◌≡◌, ◌∙◌, ℕ, Bool, List, [], ◌∷◌, length, map, refl, sym, ap}
use Rattle.std.proofs.lemmas.List.{length-map}
use Rattle.std.specs.Str.{bytes_eq}
use Rattle.indexmap.specs.IndexSet.{insert_all}
use Rattle.px_syntax.specs.declared.type_name.TypeName.{TypeName}
use Rattle.px_syntax.specs.declared.program.ParsedItem.{ParsedItem}
use Rattle.px_syntax.specs.declared.statement.Statement.{Statement}
use Rattle.px_syntax.specs.ProgramTree.{ProcedureTree}
use Rattle.px_syntax.specs.StatementTree.{statement_tree}
use Rattle.px_syntax.specs.ParsedTree.{FileTree, parsed_tree}
use Rattle.px_bodies.specs.Types.{same_type}
use Rattle.px_bodies.specs.Environment.{Environment}
use Rattle.px_typing.specs.declared.apart.Apart.{Apart}
use Rattle.px_typing.specs.declared.typing.Plan.{Plan}
use Rattle.px_typing.specs.Keeping.{Judged, Marked, judged, marked_after}
use Rattle.px_typing.specs.Declarations.{signature_in}
use Rattle.px_typing.specs.Programs.{environment_in, mentions, seen_names, seen_blocks}
use Rattle.px_typing.specs.Apart.{AreApart, items_in, joined, wholes, is_kept, made_in}
use Rattle.px_typing.specs.Plans.{IsPlanOf, judged_of_files, names_of_files, types_of_files, environment_of_files, procedures_of}
use Rattle.px_typing.proofs.ItemLemmas.{item-marked_after}
use Rattle.px_typing.proofs.NumberLemmas.{settled}
use Rattle.px_typing.proofs.ApartLemmas.{environment_same, length-wholes, made_judged}

item_judged : (env : Environment) (ms : List Marked) → map (λ j. j.item) (map (judged env) ms) ≡ map (λ m. m.item) ms
item_judged env [] = refl
item_judged env (m ∷ ms) = ap (λ ts. m.item ∷ ts) (item_judged env ms)

-- the items that are judged are all
items_judged : (files : List FileTree) → map (λ (j : Judged). j.item) (judged_of_files files) ≡ items_in files
items_judged files = item_judged (environment_in (items_in files) [] []) (marked_after [] (items_in files)) ∙ item-marked_after [] (items_in files)

module _ (files : List FileTree) (p : Plan) (a : Apart) (h : IsPlanOf files p) (k : AreApart (items_in files) a) where
  as_many_trees : length (map (map statement_tree) a.bodies.items) ≡ length (map parsed_tree a.heads.items)
  as_many_trees = length-map a.bodies.items (map statement_tree) ∙ k.as_many ∙ sym (length-map a.heads.items parsed_tree)

  -- of each head is said whether its item is kept
  pub kept_as_many : length p.kept.items ≡ length a.heads.items
  kept_as_many =
      ap length h.kept ∙ length-map (judged_of_files files) is_kept ∙ sym (length-map (judged_of_files files) (λ (j : Judged). j.item))
      ∙ ap length (items_judged files ∙ sym k.together)
      ∙ length-wholes (map parsed_tree a.heads.items) (map (map statement_tree) a.bodies.items) as_many_trees
      ∙ length-map a.heads.items parsed_tree

  -- what bodies see of the heads is what they see of the whole items
  environment_whole : environment_in (map parsed_tree a.heads.items) (insert_all same_type [] p.types.items) (insert_all bytes_eq [] p.names) ≡ environment_of_files files
  environment_whole =
      let types : insert_all same_type [] p.types.items ≡ types_of_files files = ap (insert_all same_type []) h.types ∙ settled same_type (seen_blocks (signature_in (items_in files)) (mentions (judged_of_files files))) in
      let names : insert_all bytes_eq [] p.names ≡ names_of_files files = ap (insert_all bytes_eq []) h.names ∙ settled bytes_eq (seen_names (judged_of_files files) (mentions (judged_of_files files))) in
      environment_same (map parsed_tree a.heads.items) (map (map statement_tree) a.bodies.items) as_many_trees _ _
      ∙ (λ i. environment_in (k.together i) (types i) (names i))

  pub procedures_made : (env : Environment) → env ≡ environment_in (map parsed_tree a.heads.items) (insert_all same_type [] p.types.items) (insert_all bytes_eq [] p.names) →
      made_in env (joined a) p.kept.items ≡ procedures_of files
  procedures_made env e =
      (λ i. made_in ((e ∙ environment_whole) i) ((k.together ∙ sym (items_judged files)) i) (h.kept i))
      ∙ made_judged (environment_of_files files) (judged_of_files files)

  -- from what the calls give
  pub procedures_given : (env : Environment) (heads lent : List ParsedItem) (bodies : List (List Statement)) (flags : List Bool) (types : List TypeName) (names : List (List ℕ)) →
      heads ≡ a.heads.items → lent ≡ a.heads.items → bodies ≡ a.bodies.items → flags ≡ p.kept.items → types ≡ p.types.items → names ≡ p.names →
      env ≡ environment_in (map parsed_tree lent) (insert_all same_type [] types) (insert_all bytes_eq [] names) →
      (all : List ProcedureTree) → all ≡ made_in env (wholes (map parsed_tree heads) (map (map statement_tree) bodies)) flags → all ≡ procedures_of files
  procedures_given env heads lent bodies flags types names eh el eb ef et en e all made =
      made
      ∙ (λ i. made_in env (wholes (map parsed_tree (eh i)) (map (map statement_tree) (eb i))) (ef i))
      ∙ procedures_made env (e ∙ (λ i. environment_in (map parsed_tree (el i)) (insert_all same_type [] (et i)) (insert_all bytes_eq [] (en i))))
