-- Executions of a tree from one calling state are the same but for the numbers of new blocks, where both go
-- on in the same way: statements and calls.
use Rattle.std.proofs.Common.{◌≡◌, ℕ, zero, suc, Option, Some, None, List, [], ◌∷◌, ◌++◌, map, slice_set, refl, sym, ap, ◌∙◌, subst, IsSomeAnd, append-nil}
use Rattle.std.specs.Prelude.{⊤}
use Rattle.std.proofs.lemmas.List.{append_cancel_left}
use Rattle.px_base.specs.declared.trace.Site.{Site}
use Rattle.px_base.specs.declared.trace.Kind.TheVariants.{NullDereference, UseAfterFree, DoubleFree}
use Rattle.px_base.specs.declared.trace.MarkKind.TheVariants.{Iter, Done, Access, «Freed» as FreedMark, FreeNull}
use Rattle.px_base.specs.declared.trace.FieldId.{FieldId}
use Rattle.px_meaning.specs.Values.{TypeId, ValueType, BlockType, Value, Unwritten}
use Rattle.px_meaning.specs.Heaps.{HeapMap, with_block}
use Rattle.px_meaning.specs.Calls.{error, Ending, Returned, Failed, IsCallingState}
use Rattle.px_meaning.specs.Execution.{Locals, with_local}
use Rattle.px_meaning.specs.Events.{Event, unnumbered}
use Rattle.px_meaning.specs.Steps.{ProcedureCalls, marking, live_block, freed_block}
use Rattle.px_meaning.specs.TypedProgram.{TypedProgram}
use Rattle.px_syntax.specs.TypedTree.{Expression, Expressions, get_char, no_expressions, an_expression, Condition, Place, local_place, cell_place, Statement, block, declare, assign, update, run_call, free, input, choose, loop, break, continue, return, evaluate, access, Statements, no_statements, a_statement}
use Rattle.px_syntax.specs.ProgramTree.{ProcedureTree}
use Rattle.px_syntax.specs.declared.typed_expression.Arithmetic.{Arithmetic}
use Rattle.px_meaning.specs.TreeExecution.{Verdicts, Exit, falls, breaks, continues, returns, fails, Exits, with_fall, behind_body, Stores, failing, Takes, Declares, Assigns, Updates, Accesses, Frees, TestsIf, Loops, GivesBack, Executes, ExecutesAll, Calculates, Reaches, by_outcome}
use Rattle.px_meaning.specs.TreeCalls.{first_locals, closes, TreeCallsWithin, SeenTreeCalls, TreeEvents}
use Rattle.px_meaning.specs.CoreLaws.{EndsAlike}
use Rattle.px_meaning.proofs.Renamed.{Renaming, SameValue, SameValues, Tied, Within, value_wider, same_put, tied_put}
use Rattle.px_meaning.proofs.RenamedSteps.{SameEnding, AgreeBut}
use Rattle.px_meaning.proofs.RenamedRuns.{itself, same_cells, tied_itself, alike}
use Rattle.px_meaning.proofs.TypedHeaps.{written_cells}
use Rattle.px_meaning.proofs.TreeBegins.{Begins, Opens, OpensExits, BeginsAll, shorter, outcome_opens, verdict_opens, fall_opens, body_opens, failing_opens, loads_begin, calculates_begin, reaches_begin, stores_begin, frees_begin, call_begins, takes_begin, passes_begin, loops_begin, runs_begin, all_runs_begin}
use Rattle.px_meaning.proofs.TreeSeen.{tree_calls_to}
use Rattle.px_meaning.proofs.RenamedTrees.{un, SameLocals, within_on, within_refl, locals_wider, locals_same_put, BothValue, BothErr, BothVerdict, outcome_both, verdict_both, pointer_both, uses_both, loads_both, calculates_both, reaches_both, call_both, eval_both, all_both, passes_both, test_both}

abbrev SameExit : Renaming → Exit → Exit → Type 0
SameExit R falls falls = ⊤
SameExit R breaks breaks = ⊤
SameExit R continues continues = ⊤
SameExit R (returns v) (returns w) = SameValue R v w
SameExit R (fails kind site) (fails kind' site') = (kind ≡ kind') × (site ≡ site')
SameExit R _ _ = ⊥

abbrev BothExits : Type 1 → Renaming → Exits Event → Exits Event → Type 1
BothExits Z R K L = (S : Renaming) → Within R S → (a : List Event) (x y : Exit) (l m : Locals) (h i : HeapMap) → SameExit S x y → SameLocals S l m → Tied S h i → K a x l h → L a y m i → Z

abbrev BothAfter : Type 1 → Renaming → (List Event → Locals → HeapMap → Type 0) → (List Event → Locals → HeapMap → Type 0) → Type 1
BothAfter Z R f g = (S : Renaming) → Within R S → (a : List Event) (l m : Locals) (h i : HeapMap) → SameLocals S l m → Tied S h i → f a l h → g a m i → Z

abbrev OpensAfter : List Event → (List Event → Locals → HeapMap → Type 0) → Type 0
OpensAfter t f = (a : List Event) (l : Locals) (h : HeapMap) → f a l h → Begins t a

exits_within : (Z : Type 1) (R S : Renaming) → Within R S → (K L : Exits Event) → BothExits Z R K L → BothExits Z S K L
exits_within Z R S f K L on T g = on T (within_on f g)

-- two goals on exits, where each of the other pairs can't be
by_exits : (Z : Type 1) (S : Renaming) (K L : Exits Event) (a : List Event) (l m : Locals) (h i : HeapMap) →
    (K a falls l h → L a falls m i → Z) → (K a breaks l h → L a breaks m i → Z) → (K a continues l h → L a continues m i → Z) →
    ((v w : Value) → SameValue S v w → K a (returns v) l h → L a (returns w) m i → Z) →
    ((kind kind' : _) (site site' : Site) → kind ≡ kind' → site ≡ site' → K a (fails kind site) l h → L a (fails kind' site') m i → Z) →
    (x y : Exit) → SameExit S x y → K a x l h → L a y m i → Z
by_exits Z S K L a l m h i f b c r e falls falls s k k' = f k k'
by_exits Z S K L a l m h i f b c r e breaks breaks s k k' = b k k'
by_exits Z S K L a l m h i f b c r e continues continues s k k' = c k k'
by_exits Z S K L a l m h i f b c r e (returns v) (returns w) s k k' = r v w s k k'
by_exits Z S K L a l m h i f b c r e (fails kind site) (fails kind' site') s k k' = e kind kind' site site' s.0 s.1 k k'
by_exits Z S K L a l m h i f b c r e falls breaks s k k' = absurd s
by_exits Z S K L a l m h i f b c r e falls continues s k k' = absurd s
by_exits Z S K L a l m h i f b c r e falls (returns v) s k k' = absurd s
by_exits Z S K L a l m h i f b c r e falls (fails kind site) s k k' = absurd s
by_exits Z S K L a l m h i f b c r e breaks falls s k k' = absurd s
by_exits Z S K L a l m h i f b c r e continues falls s k k' = absurd s
by_exits Z S K L a l m h i f b c r e (returns v) falls s k k' = absurd s
by_exits Z S K L a l m h i f b c r e (fails kind site) falls s k k' = absurd s
by_exits Z S K L a l m h i f b c r e _ _ s k k' = absurd s

module _ (types : List BlockType) (C D : ProcedureCalls Event) (agree : AgreeBut C D) (s t p q : List Event) (eq : s ++ p ≡ t ++ q) (Z : Type 1) where
  fall_both : (R : Renaming) (K L : Exits Event) (f g : List Event → Locals → HeapMap → Type 0) → BothExits Z R K L → BothAfter Z R f g → BothExits Z R (with_fall K f) (with_fall L g)
  fall_both R K L f g on fg S w a x y l m h i same ll tied k k' =
      by_exits Z S (with_fall K f) (with_fall L g) a l m h i (fg S w a l m h i ll tied) (on S w a breaks breaks l m h i tt ll tied) (on S w a continues continues l m h i tt ll tied)
      (λ v u vu. on S w a (returns v) (returns u) l m h i vu ll tied) (λ kind kind' site site' e e'. on S w a (fails kind site) (fails kind' site') l m h i (e, e') ll tied) x y same k k'

  body_both : (R : Renaming) (K L : Exits Event) (f g : List Event → Locals → HeapMap → Type 0) → BothExits Z R K L → BothAfter Z R f g → BothExits Z R (behind_body un types C f K) (behind_body un types D g L)
  body_both R K L f g on fg S w a x y l m h i same ll tied k k' =
      by_exits Z S (behind_body un types C f K) (behind_body un types D g L) a l m h i (fg S w a l m h i ll tied) (on S w a falls falls l m h i tt ll tied) (fg S w a l m h i ll tied)
      (λ v u vu. on S w a (returns v) (returns u) l m h i vu ll tied) (λ kind kind' site site' e e'. on S w a (fails kind site) (fails kind' site') l m h i (e, e') ll tied) x y same k k'

  failing_both : (R : Renaming) (l m : Locals) (K L : Exits Event) → SameLocals R l m → BothExits Z R K L → BothErr Z R (failing un types C l K) (failing un types D m L)
  failing_both R l m K L same on S w a kind site h i tied = on S w a (fails kind site) (fails kind site) l m h i (refl, refl) (locals_wider R S w l m same) tied

  takes_both : (e : Expression) (R : Renaming) (l m : Locals) (a : List Event) (h i : HeapMap) (K L : Exits Event) (f g : List Event → Value → HeapMap → Type 0) → SameLocals R l m → Tied R h i → OpensExits s K → OpensExits t L → BothExits Z R K L →
      Opens s f → Opens t g → BothValue Z R f g → Takes un types C e l a h K f → Takes un types D e m a i L g → Z
  takes_both e R l m a h i K L f g same tied o o' on of og fg k k' =
      eval_both types C D agree s t p q eq Z e R l m a h i _ _ same tied
      (outcome_opens s (failing un types C l K) f (failing_opens un types C s l K o) of) (outcome_opens t (failing un types D m L) g (failing_opens un types D t m L o') og)
      (outcome_both Z R (failing un types C l K) (failing un types D m L) f g (failing_both R l m K L same on) fg) k k'

  stores_both : (R : Renaming) (v w : Value) (field : FieldId) (b : TypeId) (site : Site) (u x : Value) (l m : Locals) (a : List Event) (h i : HeapMap) (K L : Exits Event) → SameValue R v w → SameValue R u x → SameLocals R l m → Tied R h i → BothExits Z R K L →
      Stores un types C v field b site u l a h K → Stores un types D w field b site x m a i L → Z
  stores_both R v w field b site u x l m a h i K L vw ux same tied on k k' =
      pointer_both Z R h i b.0 v w (K (a ++ marking un Access site) (fails (error NullDereference) site) l h) (L (a ++ marking un Access site) (fails (error NullDereference) site) m i)
      (K (a ++ marking un Access site) (fails (error UseAfterFree) site) l h) (L (a ++ marking un Access site) (fails (error UseAfterFree) site) m i)
      (λ n cells. K (a ++ marking un Access site) falls l (with_block h n (live_block b.0 (slice_set cells field.0 u))))
      (λ n cells. L (a ++ marking un Access site) falls m (with_block i n (live_block b.0 (slice_set cells field.0 x))))
      tied vw (on R (within_refl R) _ _ _ _ _ _ _ (refl, refl) same tied) (on R (within_refl R) _ _ _ _ _ _ _ (refl, refl) same tied)
      (λ j n vs ws r cells. on R (within_refl R) _ falls falls l m _ _ tt same (tied_put R h i j n _ _ tied r (refl, same_put R vs ws field.0 u x cells ux))) k k'

  frees_both : (R : Renaming) (v w : Value) (b : TypeId) (site : Site) (l m : Locals) (a : List Event) (h i : HeapMap) (K L : Exits Event) → SameValue R v w → SameLocals R l m → Tied R h i → BothExits Z R K L →
      Frees un types C v b site l a h K → Frees un types D w b site m a i L → Z
  frees_both R v w b site l m a h i K L vw same tied on k k' =
      pointer_both Z R h i b.0 v w (K (a ++ marking un FreeNull site) falls l h) (L (a ++ marking un FreeNull site) falls m i)
      (K (a ++ marking un FreedMark site) (fails (error DoubleFree) site) l h) (L (a ++ marking un FreedMark site) (fails (error DoubleFree) site) m i)
      (λ n cells. K (a ++ marking un FreedMark site) falls l (with_block h n (freed_block b.0))) (λ n cells. L (a ++ marking un FreedMark site) falls m (with_block i n (freed_block b.0)))
      tied vw (on R (within_refl R) _ falls falls _ _ _ _ tt same tied) (on R (within_refl R) _ _ _ _ _ _ _ (refl, refl) same tied)
      (λ j n vs ws r cells. on R (within_refl R) _ falls falls l m _ _ tt same (tied_put R h i j n _ _ tied r (refl, tt))) k k'

  declares_both : (n : ℕ) (e : Option Expression) (R : Renaming) (l m : Locals) (a : List Event) (h i : HeapMap) (K L : Exits Event) → SameLocals R l m → Tied R h i → OpensExits s K → OpensExits t L → BothExits Z R K L →
      Declares un types C n e l a h K → Declares un types D n e m a i L → Z
  declares_both n None R l m a h i K L same tied o o' on k k' = on R (within_refl R) _ falls falls _ _ _ _ tt (locals_same_put R l m n Unwritten Unwritten same tt) tied k k'
  declares_both n (Some e) R l m a h i K L same tied o o' on k k' =
      let unset : SameLocals R (with_local l n Unwritten) (with_local m n Unwritten) = locals_same_put R l m n Unwritten Unwritten same tt in
      takes_both e R (with_local l n Unwritten) (with_local m n Unwritten) a h i K L _ _ unset tied o o' on
      (λ a v h. o a falls (with_local (with_local l n Unwritten) n v) h) (λ a v h. o' a falls (with_local (with_local m n Unwritten) n v) h)
      (λ S w a v u h i vu tied. on S w a falls falls (with_local (with_local l n Unwritten) n v) (with_local (with_local m n Unwritten) n u) h i tt
      (locals_same_put S (with_local l n Unwritten) (with_local m n Unwritten) n v u (locals_wider R S w (with_local l n Unwritten) (with_local m n Unwritten) unset) vu) tied) k k'

  assigns_both : (x : Place) (e : Expression) (R : Renaming) (l m : Locals) (a : List Event) (h i : HeapMap) (K L : Exits Event) → SameLocals R l m → Tied R h i → OpensExits s K → OpensExits t L → BothExits Z R K L →
      Assigns un types C x e l a h K → Assigns un types D x e m a i L → Z
  assigns_both (local_place n at) e R l m a h i K L same tied o o' on k k' =
      takes_both e R l m a h i K L _ _ same tied o o' on (λ a v h. o a falls (with_local l n v) h) (λ a v h. o' a falls (with_local m n v) h)
      (λ S w a v u h i vu tied. on S w a falls falls (with_local l n v) (with_local m n u) h i tt (locals_same_put S l m n v u (locals_wider R S w l m same) vu) tied) k k'
  assigns_both (cell_place c field b site) e R l m a h i K L same tied o o' on k k' =
      takes_both c R l m a h i K L _ _ same tied o o' on
      (λ a x h. takes_begin un types C s e l a h K _ o (λ a v h. stores_begin un types C s x field b site v l a h K o))
      (λ a x h. takes_begin un types D t e m a h L _ o' (λ a v h. stores_begin un types D t x field b site v m a h L o'))
      (λ S w a x y h i xy tied. takes_both e S l m a h i K L _ _ (locals_wider R S w l m same) tied o o' (exits_within Z R S w K L on)
      (λ a v h. stores_begin un types C s x field b site v l a h K o) (λ a v h. stores_begin un types D t y field b site v m a h L o')
      (λ T w' a v u h i vu tied. stores_both T x y field b site v u l m a h i K L (value_wider S T w' x y xy) vu (locals_wider R T (within_on w w') l m same) tied (exits_within Z R T (within_on w w') K L on))) k k'

  updates_both : (op : Arithmetic) (x : Place) (e : Expression) (R : Renaming) (l m : Locals) (a : List Event) (h i : HeapMap) (K L : Exits Event) → SameLocals R l m → Tied R h i → OpensExits s K → OpensExits t L → BothExits Z R K L →
      Updates un types C op x e l a h K → Updates un types D op x e m a i L → Z
  updates_both op (local_place n at) e R l m a h i K L same tied o o' on k k' =
      uses_both types C D agree s t p q eq Z R (l n) (m n) at a h i _ _ (same n) tied
      (outcome_both Z R (failing un types C l K) (failing un types D m L) _ _ (failing_both R l m K L same on)
      (λ S w a x x' h i xx tied. takes_both e S l m a h i K L _ _ (locals_wider R S w l m same) tied o o' (exits_within Z R S w K L on)
      (λ a y h. calculates_begin un types C s op x y a h _ (outcome_opens s (failing un types C l K) _ (failing_opens un types C s l K o) (λ a v h. o a falls (with_local l n v) h)))
      (λ a y h. calculates_begin un types D t op x' y a h _ (outcome_opens t (failing un types D m L) _ (failing_opens un types D t m L o') (λ a v h. o' a falls (with_local m n v) h)))
      (λ T w' a y y' h i yy tied. calculates_both types C D agree s t p q eq Z T op x y x' y' a h i _ _ (value_wider S T w' x x' xx) yy tied
      (outcome_both Z T (failing un types C l K) (failing un types D m L) _ _ (failing_both T l m K L (locals_wider R T (within_on w w') l m same) (exits_within Z R T (within_on w w') K L on))
      (λ U w'' a v v' h i vv tied. on U (within_on (within_on w w') w'') a falls falls (with_local l n v) (with_local m n v') h i tt
      (locals_same_put U l m n v v' (locals_wider R U (within_on (within_on w w') w'') l m same) vv) tied))))) k k'
  updates_both op (cell_place c field b site) e R l m a h i K L same tied o o' on k k' =
      takes_both c R l m a h i K L _ _ same tied o o' on
      (λ a place h. loads_begin un types C s place field b site a h _ (outcome_opens s (failing un types C l K) _ (failing_opens un types C s l K o) (λ a x h.
      takes_begin un types C s e l a h K _ o (stores_new C s l K o place x))))
      (λ a place h. loads_begin un types D t place field b site a h _ (outcome_opens t (failing un types D m L) _ (failing_opens un types D t m L o') (λ a x h.
      takes_begin un types D t e m a h L _ o' (stores_new D t m L o' place x))))
      (λ S w a place place' h i pp tied. loads_both types C D agree s t p q eq Z S place place' field b site a h i _ _ pp tied
      (outcome_both Z S (failing un types C l K) (failing un types D m L) _ _ (failing_both S l m K L (locals_wider R S w l m same) (exits_within Z R S w K L on))
      (λ T w' a x x' h i xx tied. takes_both e T l m a h i K L _ _ (locals_wider R T (within_on w w') l m same) tied o o' (exits_within Z R T (within_on w w') K L on)
      (stores_new C s l K o place x) (stores_new D t m L o' place' x')
      (λ U w'' a y y' h i yy tied. calculates_both types C D agree s t p q eq Z U op x y x' y' a h i _ _ (value_wider T U w'' x x' xx) yy tied
      (outcome_both Z U (failing un types C l K) (failing un types D m L) _ _
      (failing_both U l m K L (locals_wider R U (within_on (within_on w w') w'') l m same) (exits_within Z R U (within_on (within_on w w') w'') K L on))
      (λ V w''' a v v' h i vv tied. stores_both V place place' field b site v v' l m a h i K L (value_wider S V (within_on (within_on w' w'') w''') place place' pp) vv
      (locals_wider R V (within_on (within_on (within_on w w') w'') w''') l m same) tied (exits_within Z R V (within_on (within_on (within_on w w') w'') w''') K L on))))))) k k'
    where
      stores_new : (calls : ProcedureCalls Event) (u : List Event) (ls : Locals) (G : Exits Event) → OpensExits u G → (place x : Value) →
          Opens u (λ a y h. Calculates un types calls op x y a h (by_outcome (failing un types calls ls G) (λ a v h. Stores un types calls place field b site v ls a h G)))
      stores_new calls u ls G o place x a y h =
          calculates_begin un types calls u op x y a h _ (outcome_opens u (failing un types calls ls G) _ (failing_opens un types calls u ls G o) (λ a v h. stores_begin un types calls u place field b site v ls a h G o))

  accesses_both : (e : Expression) (parts : Expressions) (b : TypeId) (site : Site) (R : Renaming) (l m : Locals) (a : List Event) (h i : HeapMap) (K L : Exits Event) → SameLocals R l m → Tied R h i → OpensExits s K → OpensExits t L → BothExits Z R K L →
      Accesses un types C e parts b site l a h K → Accesses un types D e parts b site m a i L → Z
  accesses_both e parts b site R l m a h i K L same tied o o' on k k' =
      takes_both e R l m a h i K L _ _ same tied o o' on
      (λ a x h. passes_begin un types C s parts l a h (failing un types C l K) _ (failing_opens un types C s l K o) (reached C s l K o x))
      (λ a x h. passes_begin un types D t parts m a h (failing un types D m L) _ (failing_opens un types D t m L o') (reached D t m L o' x))
      (λ S w a x y h i xy tied. passes_both types C D agree s t p q eq Z parts S l m a h i (failing un types C l K) (failing un types D m L) _ _ (locals_wider R S w l m same) tied
      (failing_opens un types C s l K o) (failing_opens un types D t m L o') (reached C s l K o x) (reached D t m L o' y) (failing_both S l m K L (locals_wider R S w l m same) (exits_within Z R S w K L on))
      (λ T w' a h i tied. let far = within_on w w' in
      reaches_both types C D agree s t p q eq Z T x y b site a h i (failing un types C l K) (failing un types D m L) (λ a h. K a falls l h) (λ a h. L a falls m h) (value_wider S T w' x y xy) tied
      (failing_both T l m K L (locals_wider R T far l m same) (exits_within Z R T far K L on))
      (λ U w'' a h i tied. on U (within_on far w'') a falls falls l m h i tt (locals_wider R U (within_on far w'') l m same) tied))) k k'
    where
      reached : (calls : ProcedureCalls Event) (u : List Event) (now : Locals) (G : Exits Event) → OpensExits u G → (x : Value) (a : List Event) (h : HeapMap) → Reaches un types calls x b site a h (failing un types calls now G) (λ a h. G a falls now h) → Begins u a
      reached calls u now G o x a h = reaches_begin un types calls u x b site a h (failing un types calls now G) (λ a h. G a falls now h) (failing_opens un types calls u now G o) (λ a h. o a falls now h)

  tests_if_both : (c : Option Condition) (R : Renaming) (l m : Locals) (a : List Event) (h i : HeapMap) (K L : Verdicts Event) → SameLocals R l m → Tied R h i → Opens s K → Opens t L → BothVerdict Z R K L →
      TestsIf un types C c l a h K → TestsIf un types D c m a i L → Z
  tests_if_both None R l m a h i K L same tied o o' on k k' = on R (within_refl R) _ _ _ _ _ tt tied k k'
  tests_if_both (Some c) R l m a h i K L same tied o o' on k k' = test_both types C D agree s t p q eq Z c R l m a h i K L same tied o o' on k k'

  gives_both : (e : Option Expression) (R : Renaming) (l m : Locals) (a : List Event) (h i : HeapMap) (K L : Exits Event) → SameLocals R l m → Tied R h i → OpensExits s K → OpensExits t L → BothExits Z R K L →
      GivesBack un types C e l a h K → GivesBack un types D e m a i L → Z
  gives_both None R l m a h i K L same tied o o' on k k' = on R (within_refl R) _ (returns Unwritten) (returns Unwritten) _ _ _ _ tt same tied k k'
  gives_both (Some e) R l m a h i K L same tied o o' on k k' =
      takes_both e R l m a h i K L _ _ same tied o o' on (λ a v h. o a (returns v) l h) (λ a v h. o' a (returns v) m h)
      (λ S w a v u h i vu tied. on S w a (returns v) (returns u) l m h i vu (locals_wider R S w l m same) tied) k k'

  abbrev Does : Type 1
  Does = Locals → List Event → HeapMap → Exits Event → Type 0

  abbrev BothAll : Does → Does → Type 1
  BothAll X Y = (R : Renaming) (l m : Locals) (a : List Event) (h i : HeapMap) (K L : Exits Event) → SameLocals R l m → Tied R h i → OpensExits s K → OpensExits t L → BothExits Z R K L → X l a h K → Y m a i L → Z

  loops_both : (bound bound' : Option ℕ) (n n' made : ℕ) (site : Site) (c : Option Condition) (body body' after_body after_body' : Does) →
      BeginsAll un types C s body → BeginsAll un types D t body' → BeginsAll un types C s after_body → BeginsAll un types D t after_body' → BothAll body body' → BothAll after_body after_body' →
      BothAll (Loops un types C bound n made site c body after_body) (Loops un types D bound' n' made site c body' after_body')
  loops_both bound bound' zero n' made site c body body' after_body after_body' b b' f f' pb pf R l m a h i K L same tied o o' on k k' = absurd k
  loops_both bound bound' (suc n) zero made site c body body' after_body after_body' b b' f f' pb pf R l m a h i K L same tied o o' on k k' = absurd k'
  loops_both bound bound' (suc n) (suc n') made site c body body' after_body after_body' b b' f f' pb pf R l m a h i K L same tied o o' on k k' =
      tests_if_both c R l m a h i _ _ same tied
      (verdict_opens s (failing un types C l K) _ _ (failing_opens un types C s l K o)
      (λ a h k. shorter s a (marking un Iter site) (b l (a ++ marking un Iter site) h _ (body_opens un types C s K _ o first) k.1))
      (λ a h k. shorter s a (marking un Done site) (o (a ++ marking un Done site) falls l h k)))
      (verdict_opens t (failing un types D m L) _ _ (failing_opens un types D t m L o')
      (λ a h k. shorter t a (marking un Iter site) (b' m (a ++ marking un Iter site) h _ (body_opens un types D t L _ o' second) k.1))
      (λ a h k. shorter t a (marking un Done site) (o' (a ++ marking un Done site) falls m h k)))
      (verdict_both Z R (failing un types C l K) (failing un types D m L) _ _ _ _ (failing_both R l m K L same on)
      (λ S w a h i tied k k'. pb S l m (a ++ marking un Iter site) h i _ _ (locals_wider R S w l m same) tied (body_opens un types C s K _ o first) (body_opens un types D t L _ o' second)
      (body_both S K L _ _ (exits_within Z R S w K L on) (λ T w' a l m h i same tied. pf T l m a h i _ _ same tied (fall_opens s K _ o third) (fall_opens t L _ o' fourth)
      (fall_both T K L _ _ (exits_within Z R T (within_on w w') K L on) (λ U w'' a l m h i same tied.
      loops_both bound bound' n n' (suc made) site c body body' after_body after_body' b b' f f' pb pf U l m a h i K L same tied o o' (exits_within Z R U (within_on (within_on w w') w'') K L on))))) k.1 k'.1)
      (λ S w a h i tied. on S w (a ++ marking un Done site) falls falls l m h i tt (locals_wider R S w l m same) tied)) k k'
    where
      third : OpensAfter s (λ a l h. Loops un types C bound n (suc made) site c body after_body l a h K)
      third a l h = loops_begin un types C s bound n (suc made) site c body after_body b f l a h K o

      fourth : OpensAfter t (λ a l h. Loops un types D bound' n' (suc made) site c body' after_body' l a h L)
      fourth a l h = loops_begin un types D t bound' n' (suc made) site c body' after_body' b' f' l a h L o'

      first : OpensAfter s (λ a l h. after_body l a h (with_fall K (λ a l h. Loops un types C bound n (suc made) site c body after_body l a h K)))
      first a l h = f l a h _ (fall_opens s K _ o third)

      second : OpensAfter t (λ a l h. after_body' l a h (with_fall L (λ a l h. Loops un types D bound' n' (suc made) site c body' after_body' l a h L)))
      second a l h = f' l a h _ (fall_opens t L _ o' fourth)

  mutual
    runs_both : (bound bound' : Option ℕ) (n n' : ℕ) (x : Statement) → BothAll (Executes un types C bound n x) (Executes un types D bound' n' x)
    runs_both bound bound' n n' (block ss) R l m a h i K L same tied o o' on k k' = all_runs_both bound bound' n n' ss R l m a h i K L same tied o o' on k k'
    runs_both bound bound' n n' (declare j e) R l m a h i K L same tied o o' on k k' = declares_both j e R l m a h i K L same tied o o' on k k'
    runs_both bound bound' n n' (assign x e) R l m a h i K L same tied o o' on k k' = assigns_both x e R l m a h i K L same tied o o' on k k'
    runs_both bound bound' n n' (update op x e) R l m a h i K L same tied o o' on k k' = updates_both op x e R l m a h i K L same tied o o' on k k'
    runs_both bound bound' n n' (run_call proc es site) R l m a h i K L same tied o o' on k k' =
        all_both types C D agree s t p q eq Z es R l m a h i (failing un types C l K) (failing un types D m L) _ _ same tied (failing_opens un types C s l K o) (failing_opens un types D t m L o')
        (λ a vs h. call_begins un types C s proc site vs a h (failing un types C l K) (λ a v h. K a falls l h) (failing_opens un types C s l K o) (λ a v h. o a falls l h))
        (λ a vs h. call_begins un types D t proc site vs a h (failing un types D m L) (λ a v h. L a falls m h) (failing_opens un types D t m L o') (λ a v h. o' a falls m h))
        (failing_both R l m K L same on)
        (λ S w a vs ws h i vw tied. call_both types C D agree s t p q eq Z S proc site vs ws a h i (failing un types C l K) (failing un types D m L) (λ a v h. K a falls l h) (λ a v h. L a falls m h) vw tied
        (failing_opens un types C s l K o) (failing_opens un types D t m L o') (λ a v h. o a falls l h) (λ a v h. o' a falls m h) (failing_both S l m K L (locals_wider R S w l m same) (exits_within Z R S w K L on))
        (λ T w' a v u h i vu tied. on T (within_on w w') a falls falls l m h i tt (locals_wider R T (within_on w w') l m same) tied)) k k'
    runs_both bound bound' n n' (free e b site) R l m a h i K L same tied o o' on k k' =
        takes_both e R l m a h i K L _ _ same tied o o' on (λ a v h. frees_begin un types C s v b site l a h K o) (λ a v h. frees_begin un types D t v b site m a h L o')
        (λ S w a v u h i vu tied. frees_both S v u b site l m a h i K L vu (locals_wider R S w l m same) tied (exits_within Z R S w K L on)) k k'
    runs_both bound bound' n n' (input site) R l m a h i K L same tied o o' on k k' =
        takes_both (get_char site) R l m a h i K L _ _ same tied o o' on (λ a v h. o a falls l h) (λ a v h. o' a falls m h)
        (λ S w a v u h i vu tied. on S w a falls falls l m h i tt (locals_wider R S w l m same) tied) k k'
    runs_both bound bound' n n' (choose c first second) R l m a h i K L same tied o o' on k k' =
        test_both types C D agree s t p q eq Z c R l m a h i _ _ same tied
        (verdict_opens s (failing un types C l K) _ _ (failing_opens un types C s l K o) (λ a h. runs_begin un types C s bound n first l a h K o) (λ a h. runs_begin un types C s bound n second l a h K o))
        (verdict_opens t (failing un types D m L) _ _ (failing_opens un types D t m L o') (λ a h. runs_begin un types D t bound' n' first m a h L o') (λ a h. runs_begin un types D t bound' n' second m a h L o'))
        (verdict_both Z R (failing un types C l K) (failing un types D m L) _ _ _ _ (failing_both R l m K L same on)
        (λ S w a h i tied. runs_both bound bound' n n' first S l m a h i K L (locals_wider R S w l m same) tied o o' (exits_within Z R S w K L on))
        (λ S w a h i tied. runs_both bound bound' n n' second S l m a h i K L (locals_wider R S w l m same) tied o o' (exits_within Z R S w K L on))) k k'
    runs_both bound bound' n n' (loop site c body after_body) R l m a h i K L same tied o o' on k k' =
        loops_both bound bound' n n' 0 site c (Executes un types C bound n body) (Executes un types D bound' n' body) (Executes un types C bound n after_body) (Executes un types D bound' n' after_body)
        (runs_begin un types C s bound n body) (runs_begin un types D t bound' n' body) (runs_begin un types C s bound n after_body) (runs_begin un types D t bound' n' after_body)
        (runs_both bound bound' n n' body) (runs_both bound bound' n n' after_body) R l m a h i K L same tied o o' on k k'
    runs_both bound bound' n n' break R l m a h i K L same tied o o' on k k' = on R (within_refl R) _ breaks breaks _ _ _ _ tt same tied k k'
    runs_both bound bound' n n' continue R l m a h i K L same tied o o' on k k' = on R (within_refl R) _ continues continues _ _ _ _ tt same tied k k'
    runs_both bound bound' n n' (return e) R l m a h i K L same tied o o' on k k' = gives_both e R l m a h i K L same tied o o' on k k'
    runs_both bound bound' n n' (evaluate e) R l m a h i K L same tied o o' on k k' =
        passes_both types C D agree s t p q eq Z (an_expression e no_expressions) R l m a h i (failing un types C l K) (failing un types D m L) _ _ same tied (failing_opens un types C s l K o) (failing_opens un types D t m L o')
        (λ a h. o a falls l h) (λ a h. o' a falls m h) (failing_both R l m K L same on) (λ S w a h i tied. on S w a falls falls l m h i tt (locals_wider R S w l m same) tied) k k'
    runs_both bound bound' n n' (access e parts field b site) R l m a h i K L same tied o o' on k k' = accesses_both e parts b site R l m a h i K L same tied o o' on k k'

    all_runs_both : (bound bound' : Option ℕ) (n n' : ℕ) (xs : Statements) → BothAll (ExecutesAll un types C bound n xs) (ExecutesAll un types D bound' n' xs)
    all_runs_both bound bound' n n' no_statements R l m a h i K L same tied o o' on k k' = on R (within_refl R) _ falls falls _ _ _ _ tt same tied k k'
    all_runs_both bound bound' n n' (a_statement x rest) R l m a h i K L same tied o o' on k k' =
        runs_both bound bound' n n' x R l m a h i _ _ same tied
        (fall_opens s K _ o (λ a l h. all_runs_begin un types C s bound n rest l a h K o)) (fall_opens t L _ o' (λ a l h. all_runs_begin un types D t bound' n' rest l a h L o'))
        (fall_both R K L _ _ on (λ S w a l m h i same tied. all_runs_both bound bound' n n' rest S l m a h i K L same tied o o' (exits_within Z R S w K L on))) k k'

-- ---- calls

closes_opens : (t : List Event) (d : Ending) (m : HeapMap) → OpensExits t (closes t d m)
closes_opens t d m a falls l h k = ([], k.0 ∙ sym (append-nil a))
closes_opens t d m a (returns v) l h k = ([], k.0 ∙ sym (append-nil a))
closes_opens t d m a (fails kind site) l h k = ([], k.0 ∙ sym (append-nil a))
closes_opens t d m a breaks l h k = absurd k
closes_opens t d m a continues l h k = absurd k

-- the whole is the same, and the ending but for numbers
abbrev Same : Renaming → List Event → List Event → List Event → List Event → Ending → Ending → HeapMap → HeapMap → Type 1
Same R s t p q d e m n = (s ≡ t) × (p ≡ q) × ((S : Renaming) × Within R S × SameEnding S d e × Tied S m n)

same_end : (R S : Renaming) → Within R S → (s t p q a : List Event) (d e d' e' : Ending) (m n h i : HeapMap) → s ++ p ≡ t ++ q → SameEnding S d' e' → Tied S h i →
    (s ≡ a) × (d ≡ d') × (m ≡ h) → (t ≡ a) × (e ≡ e') × (n ≡ i) → Same R s t p q d e m n
same_end R S w s t p q a d e d' e' m n h i eq same tied (s1, d1, m1) (t1, e1, n1) =
    let st : s ≡ t = s1 ∙ sym t1 in (
      st,
      append_cancel_left s p q (eq ∙ ap (λ u. u ++ q) (sym st)),
      (
        S,
        w,
        subst (λ u. SameEnding S u e) (sym d1) (subst (λ u. SameEnding S d' u) (sym e1) same),
        subst (λ u. Tied S u n) (sym m1) (subst (λ u. Tied S h u) (sym n1) tied),
      ),
    )

closes_both : (R : Renaming) (s t p q : List Event) (d e : Ending) (m n : HeapMap) → s ++ p ≡ t ++ q → BothExits (Same R s t p q d e m n) R (closes s d m) (closes t e n)
closes_both R s t p q d e m n eq S w a x y l l' h i same ll tied k k' =
    by_exits (Same R s t p q d e m n) S (closes s d m) (closes t e n) a l l' h i
    (λ k k'. same_end R S w s t p q a d e (Returned Unwritten) (Returned Unwritten) m n h i eq tt tied k k') (λ k k'. absurd k) (λ k k'. absurd k)
    (λ v u vu k k'. same_end R S w s t p q a d e (Returned v) (Returned u) m n h i eq vu tied k k')
    (λ kind kind' site site' e1 e2 k k'. same_end R S w s t p q a d e (Failed kind site) (Failed kind' site') m n h i eq (e1, e2) tied k k') x y same k k'

same_first_locals : (R : Renaming) (vs ws : List Value) → SameValues R vs ws → SameLocals R (first_locals vs) (first_locals ws)
same_first_locals R [] [] p n = tt
same_first_locals R (v ∷ vs) (w ∷ ws) p zero = p.0
same_first_locals R (v ∷ vs) (w ∷ ws) p (suc n) = same_first_locals R vs ws p.1 n
same_first_locals R [] (w ∷ ws) p n = absurd p
same_first_locals R (v ∷ vs) [] p n = absurd p

module _ (P : TypedProgram) where
  body_agree : (i j : ℕ) → AgreeBut (TreeCallsWithin un None P i) (TreeCallsWithin un None P j) → (o : Option ProcedureTree) (R : Renaming) (vs ws : List Value) (h h' : HeapMap) → SameValues R vs ws → Tied R h h' →
      (s t : List Event) (d e : Ending) (m n : HeapMap) →
      IsSomeAnd o (λ x. Executes un P.types (TreeCallsWithin un None P i) None i x.body (first_locals vs) [] h (closes s d m)) →
      IsSomeAnd o (λ x. Executes un P.types (TreeCallsWithin un None P j) None j x.body (first_locals ws) [] h' (closes t e n)) →
      (p q : List Event) → s ++ p ≡ t ++ q → Same R s t p q d e m n
  body_agree i j agree None R vs ws h h' same tied s t d e m n c c' p q eq = absurd c
  body_agree i j agree (Some x) R vs ws h h' same tied s t d e m n c c' p q eq =
      runs_both P.types (TreeCallsWithin un None P i) (TreeCallsWithin un None P j) agree s t p q eq (Same R s t p q d e m n) None None i j x.body R (first_locals vs) (first_locals ws) [] h h'
      (closes s d m) (closes t e n) (same_first_locals R vs ws same) tied (closes_opens s d m) (closes_opens t e n) (closes_both R s t p q d e m n eq) c c'

  calls_agree : (i j : ℕ) → AgreeBut (TreeCallsWithin un None P i) (TreeCallsWithin un None P j)
  calls_agree zero j R f vs ws h h' same tied s t d e m n c c' p q eq = absurd c
  calls_agree (suc i) zero R f vs ws h h' same tied s t d e m n c c' p q eq = absurd c'
  calls_agree (suc i) (suc j) R f vs ws h h' same tied s t d e m n c c' p q eq = body_agree i j (calls_agree i j) (P.procedures f) R vs ws h h' same tied s t d e m n c c' p q eq

  seen_agree : AgreeBut (SeenTreeCalls un None P) (SeenTreeCalls un None P)
  seen_agree R f vs ws h h' same tied s t d e m n (i, c) (j, c') p q eq = calls_agree i j R f vs ws h h' same tied s t d e m n c c' p q eq

pub tree_traces_whole : (P : TypedProgram) (f : ℕ) (parameters : List ValueType) (arguments : List Value) (heap : HeapMap) → IsCallingState P.types parameters arguments heap →
    (s t more : List Event) (d e : Ending) (m n : HeapMap) → TreeEvents P f arguments heap s d m → TreeEvents P f arguments heap t e n →
    map unnumbered t ≡ map unnumbered s ++ more → (more ≡ []) × EndsAlike d e
tree_traces_whole P f parameters arguments heap state s t more d e m n h h' eq =
    let g = tree_calls_to unnumbered (λ (e : Event). e) None P f arguments heap s d m h in
    let g' = tree_calls_to unnumbered (λ (e : Event). e) None P f arguments heap t e n h' in
    let cells = same_cells heap parameters arguments (written_cells heap parameters arguments state.written) in
    let (st, pq, (S, f', de, mn)) = seen_agree P (itself heap) f arguments arguments heap heap cells (tied_itself P.types heap state.well_typed) (map unnumbered s) (map unnumbered t) d e m n g g' more []
    (sym eq ∙ sym (append-nil (map unnumbered t))) in
    (pq, alike S d e de)
