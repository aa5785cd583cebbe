-- What a report tells of each item of the files.
use Rattle.std.proofs.Common.{◌≡◌, ℕ, ◌<◌, Bool, true, false, List, [], ◌∷◌, ◌++◌, length, map, slice_get, is_some, is_none, nat_lt, codes, Option, Some, None, refl, sym, ap, ◌∙◌, subst, inl, inr}
use Rattle.std.specs.Prelude.{◌⊎◌, option_map, filter_map}
use Rattle.std.proofs.lemmas.Option.{get_or_from_slice_get, slice_get_within, none-some, same_Some}
use Rattle.px_base.specs.Bounds.{most_parameters}
use Rattle.px_base.specs.LimitNumbers.{LimitNumbers}
use Rattle.px_base.specs.declared.trace.Site.{Site}
use Rattle.px_base.specs.declared.trace.ProcId.{ProcId}
use Rattle.px_entry.proofs.Lists.{each_all}
use Rattle.px_syntax.specs.declared.item.ResultType.{ResultType}
use Rattle.px_syntax.specs.declared.item.Parameter.{Parameter}
use Rattle.px_syntax.specs.declared.program.Left.{Left}
use Rattle.px_syntax.specs.StatementTree.{StatementTree, statements_of}
use Rattle.px_syntax.specs.ItemTree.{struct, declared, prototype, function}
use Rattle.px_syntax.specs.ParsedTree.{ParsedTree, parsed, out, FileTree}
use Rattle.px_syntax.specs.ProgramTree.{ProcedureTree, ProgramTree}
use Rattle.px_bodies.specs.Types.{given}
use Rattle.px_bodies.specs.Environment.{Environment, proc_id, result_of}
use Rattle.px_bodies.specs.Locals.{no_locals, typed_parameters}
use Rattle.px_bodies.specs.Statements.{typed_statements}
use Rattle.px_bodies.specs.Functions.{allowed_result, before_body, typed_function, NumbersDontMatter}
use Rattle.px_typing.specs.Keeping.{marked_after, first_word, word_of, Judged, judged, kept_tree, kept_trees}
use Rattle.px_typing.specs.Programs.{function_name, site_of, kept_name, left_name, mentioned_name, mentions, seen_names, left_of, procedure_of, environment_in, program_of, program_of_judged}
use Rattle.px_programs.specs.Laws.{items_in, judged_items, environment_of_files, ProgramsHaveTheirNumbers}
use Rattle.px_symexec.proofs.Lists.{IsIn, in_left, in_right}
use Rattle.px_pieces.specs.declared.findings.Part.{Part}
use Rattle.px_pieces.specs.declared.findings.Part.TheVariants.{Tabled, LeftOut}
use Rattle.px_pieces.specs.Found.{Found}
use Rattle.px_text_report.specs.Known.{known}
use Rattle.px_text_report.specs.LeftOut.{without_table, by_place}
use Rattle.px_text_report.specs.LeftOut as line
use Rattle.px_findings.specs.Found.{AreCertified}
use Rattle.px_truth.specs.Told.{shown_name, IsLineOf, HasLine, HasTable, IsToldAs, AreTold}
use Rattle.px_truth.proofs.FoundEntries.{mapped_at}
use Rattle.px_truth.proofs.Lists.{each_placed, out_of_range, in_at, any_in, all_in, given_at}
use Rattle.px_truth.proofs.LeftLines.{placed_first, placed_second, large}
use Rattle.px_truth.proofs.LargeBodies.{line_in}
use Rattle.px_soundness.proofs.PlainSteps.{some_from}

-- ---- what a typed function says of itself

on_given : {A B : Type 0} (Q : B → Type 0) (o : Option A) (g : A → Option B) → ((a : A) (b : B) → g a ≡ Some b → Q b) → (b : B) → given o g ≡ Some b → Q b
on_given Q None g on b e = absurd (none-some b e)
on_given Q (Some a) g on b e = on a b e

abbrev IsAt : ProcId → Site → ProcedureTree → Type 0
IsAt proc site p = (p.proc ≡ proc) × (p.site ≡ site)

typed_at : (env : Environment) (proc : ProcId) (site : Site) (result : ResultType) (ps : List Parameter) (body : List StatementTree) (p : ProcedureTree) →
    typed_function env proc site result ps body ≡ Some p → IsAt proc site p
typed_at env proc site result ps body =
    on_given (IsAt proc site) (allowed_result (result_of result)) _ (λ returns.
    on_given (IsAt proc site) (typed_parameters env no_locals ps) _ (λ ls.
    on_given (IsAt proc site) (typed_statements env returns false 0 (before_body ls) (statements_of body)) _
    (λ all p e. (ap (λ (q : ProcedureTree). q.proc) (sym (same_Some _ _ e)), ap (λ (q : ProcedureTree). q.site) (sym (same_Some _ _ e))))))

-- ---- words

no_word : (a b : Bool) (o : Option ProcedureTree) (u v w : List ℕ) → first_word ((a, u) ∷ (b, v) ∷ (is_none o, w) ∷ []) ≡ None → is_some o ≡ true
no_word true b o u v w e = absurd cc
no_word false true o u v w e = absurd cc
no_word false false None u v w e = absurd cc
no_word false false (Some p) u v w e = refl

-- each item is judged
items_judged : (env : Environment) (before xs : List ParsedTree) → map (λ (j : Judged). j.item) (map (judged env) (marked_after before xs)) ≡ xs
items_judged env before [] = refl
items_judged env before (x ∷ xs) = ap (λ l. x ∷ l) (items_judged env (before ++ x ∷ []) xs)

module _ (numbers : ProgramsHaveTheirNumbers) (numbers_dont_matter : NumbersDontMatter) (files : List FileTree) where
  abbrev items : List ParsedTree
  items = items_in files

  abbrev js : List Judged
  js = judged_items files

  abbrev P : ProgramTree
  P = program_of files

  -- what functions see, with the numbers of names and block types and before there are any
  abbrev env : Environment
  env = environment_of_files files

  abbrev bare : Environment
  bare = environment_in items [] []

  left_are : P.left ≡ filter_map (left_of env) js
  unfolding program_of program_of_judged
  left_are = refl

  procedures_are : P.procedures ≡ filter_map (procedure_of env) (kept_trees js)
  unfolding program_of program_of_judged
  procedures_are = refl

  -- ---- names

  abbrev IsNumbered : List ℕ → Type 0
  IsNumbered name = slice_get P.names (env.proc_number name) ≡ Some name

  seen : (name : List ℕ) → IsIn name (seen_names js (mentions js)) → IsNumbered name
  seen name h = all_in IsNumbered (seen_names js (mentions js)) name (numbers files).names h

  -- those of functions that are left out, and of those that aren't
  left_seen : (j : Judged) (k : ℕ) (name : List ℕ) → slice_get js k ≡ Some j → left_name j ≡ Some name → IsNumbered name
  left_seen j k name at' e =
      let (m, there) = given_at left_name js k j name at' e in
      seen name (in_right name (filter_map kept_name js) _ (in_left name (filter_map left_name js) (filter_map mentioned_name (mentions js)) (in_at (filter_map left_name js) m name there)))

  kept_seen : (j : Judged) (k : ℕ) (name : List ℕ) → slice_get js k ≡ Some j → kept_name j ≡ Some name → IsNumbered name
  kept_seen j k name at' e =
      let (m, there) = given_at kept_name js k j name at' e in
      seen name (in_left name (filter_map kept_name js) _ (in_at (filter_map kept_name js) m name there))

  name_shown : (o : Option (List ℕ)) → ((name : List ℕ) → o ≡ Some name → IsNumbered name) → line.left_name P.names (option_map (proc_id env) o) ≡ shown_name o
  name_shown None h = refl
  name_shown (Some name) h = get_or_from_slice_get P.names (env.proc_number name) name (codes "(none)") (h name refl)

  module _ (limits : LimitNumbers) (kinds : List ℕ) (f : Found) (found : AreCertified P limits kinds f) where
    -- ---- left-out items

    left_told : (item : ParsedTree) (word : List ℕ) (k : ℕ) → slice_get js k ≡ Some (record { item = item; word = Some word }) → HasLine P f item word
    left_told item word k at' =
        let j : Judged = record { item = item; word = Some word } in
        let l : Left = record { proc = option_map (proc_id env) (function_name item); site = site_of item; word = word } in
        let (m, there) = given_at (left_of env) js k j l at' refl in
        any_in (IsLineOf P item word) _ l
        (placed_first l P.left (without_table P.procedures (known f)) (subst (IsIn l) (sym left_are) (in_at (filter_map (left_of env) js) m l there)))
        (record { place = refl; name = name_shown (function_name item) (λ name e. left_seen j k name at' e); says = refl })

    -- ---- kept functions

    module _ (site : Site) (result : ResultType) (name : List ℕ) (ps : List Parameter) (body : List StatementTree) where
      abbrev the_function : ParsedTree
      the_function = parsed (function site result name ps body)

      is_typed : (duplicate : Bool) → word_of bare duplicate the_function ≡ None → (p : ProcedureTree) × (typed_function env (proc_id env name) site result ps body ≡ Some p)
      is_typed duplicate e =
          let bare_typed = typed_function bare (record { 0 = 0 }) site result ps body in
          let typed : is_some bare_typed ≡ true = no_word duplicate (nat_lt most_parameters (length ps)) bare_typed (codes "duplicate") (codes "parameters") (codes "type") e in
          some_from (typed_function env (proc_id env name) site result ps body)
          (numbers_dont_matter bare env.type_number env.proc_number (record { 0 = 0 }) (proc_id env name) site result ps body ∙ typed)

      told_by_part : (n : ℕ) (p : ProcedureTree) → slice_get P.procedures n ≡ Some p → p.site ≡ site → p.proc.0 ≡ n → slice_get P.names n ≡ Some name → (o : Option Part) → slice_get f.parts n ≡ o → n < length f.parts →
          HasTable P f site name ⊎ HasLine P f the_function (codes "size")
      told_by_part n p at' place own named None is l = absurd (out_of_range f.parts n l is)
      told_by_part n p at' place own named (Some (Tabled checked drops)) is l =
          inl (record { number = n; procedure = p; kept = at'; place = place; named = named; checked = checked; drops = drops; part = is })
      told_by_part n p at' place own named (Some LeftOut) is l =
          inr
          (any_in (IsLineOf P the_function (codes "size")) _ (large p) (placed_second (large p) P.left (without_table P.procedures (known f)) (line_in P limits kinds f found n p at' is))
          (record {
            place = place;
            name = get_or_from_slice_get P.names p.proc.0 name (codes "(none)") (ap (slice_get P.names) own ∙ named);
            says = refl;
          }))

      kept_told : (duplicate : Bool) → word_of bare duplicate the_function ≡ None → (k : ℕ) → slice_get js k ≡ Some (record { item = the_function; word = None }) → HasTable P f site name ⊎ HasLine P f the_function (codes "size")
      kept_told duplicate e k at' =
          let j : Judged = record { item = the_function; word = None } in
          let (p, typed) = is_typed duplicate e in
          let (i, kept) = given_at kept_tree js k j (function site result name ps body) at' refl in
          let (n, there) = given_at (procedure_of env) (kept_trees js) i (function site result name ps body) p kept typed in
          let at_n : slice_get P.procedures n ≡ Some p = ap (λ xs. slice_get xs n) procedures_are ∙ there in
          let says = typed_at env (proc_id env name) site result ps body p typed in
          let own : p.proc.0 ≡ n = ((numbers files).functions n p at_n).numbered in
          let number : env.proc_number name ≡ n = sym (ap (λ (q : ProcId). q.0) says.0) ∙ own in
          let named : slice_get P.names n ≡ Some name = subst (λ m. slice_get P.names m ≡ Some name) number (kept_seen j k name at' refl) in
          told_by_part n p at_n says.1 own named (slice_get f.parts n) refl (subst (λ m. n < m) (sym found.all) (slice_get_within P.procedures n p at_n))

    -- ---- each item

    told_as : (word : Option (List ℕ)) (item : ParsedTree) (duplicate : Bool) → word_of bare duplicate item ≡ word → (k : ℕ) → slice_get js k ≡ Some (record { item = item; word = word }) → IsToldAs P f word item
    told_as (Some word) item duplicate e k at' = left_told item word k at'
    told_as None (parsed (struct site tag ds)) duplicate e k at' = tt
    told_as None (parsed (declared site tag)) duplicate e k at' = tt
    told_as None (parsed (prototype site result name ps)) duplicate e k at' = tt
    told_as None (parsed (function site result name ps body)) duplicate e k at' = kept_told site result name ps body duplicate e k at'
    told_as None (out name site word) duplicate e k at' = absurd (none-some word (sym e))

    abbrev IsToldOf : Judged → Type 0
    IsToldOf j = IsToldAs P f j.word j.item

    told_at : (k : ℕ) (j : Judged) → slice_get js k ≡ Some j → IsToldOf j
    told_at k j at' =
        let (m, there, is) = mapped_at (judged bare) (marked_after [] items) k j at' in
        subst IsToldOf is (told_as (word_of bare m.duplicate m.item) m.item m.duplicate refl k (subst (λ i. slice_get js k ≡ Some i) (sym is) at'))

    pub all_told : AreTold files P f
    all_told = record { all = items_judged bare [] items; each = each_all IsToldOf js (each_placed IsToldOf js told_at) }
