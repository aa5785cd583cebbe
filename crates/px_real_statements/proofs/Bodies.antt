-- A body is read in one way.
use Rattle.std.proofs.Common.{◌≡◌, ℕ, zero, suc, ◌<◌, List, [], ◌∷◌, ◌++◌, length, None, Ok, Err, refl, sym, ap, subst, ◌∙◌, length-append, arith}
use Rattle.std.proofs.lemmas.List.{append_cancel_right}
use Rattle.px_real_expressions.specs.declared.terminal.Terminal.TheVariants as T
use Rattle.px_real_expressions.specs.Lexemes.{Lexeme}
use Rattle.px_real_expressions.specs.Held.{Balanced}
use Rattle.px_real_expressions.specs.Stops.{Read}
use Rattle.px_real_expressions.specs.Reading.{Reader, closed_at, held_up_to}
use Rattle.px_real_expressions.specs.Grammar.{Gram}
use Rattle.px_real_expressions.proofs.Tools.{both_are}
use Rattle.px_real_statements.specs.StatementTree.{StatementTree, simple, unread}
use Rattle.px_real_statements.specs.Grammar.{EndsBefore, Items, no_item, an_item, an_unread, IsBody}
use Rattle.px_real_statements.specs.PhraseReading.{phrase_at}
use Rattle.px_real_statements.specs.Reading.{condition_at, named_front, label_at, labels_at, items_at, block_at, if_at, switch_at, while_at, do_at, for_at, goto_at, return_at, word_at, simple_at, unlabelled_of, statement_of, statement_at}
use Rattle.px_real_statements.specs.Laws.{OneBody, SomeBody}
use Rattle.px_real_statements.specs.WorkedStatements.{sign, word, two_choices, two_choices_tree, labels, labels_tree, no_condition, Worked}
use Rattle.px_real_statements.proofs.Balance.{front_within}
use Rattle.px_real_statements.proofs.StatementExact.{ExactStatement, items_sound, items_complete, none_begins, ends_nearer, statement_some, statement_at_exact}

-- a brace behind what is read
abbrev pub brace : Lexeme
brace = record { terminal = T.CloseBrace; site = record { file = 0; line = 0; column = 0 }; text = []; value = None }

pub one_body : OneBody
one_body d ts a b g h =
    let n : ℕ = suc (length ts) in
    let fits : length ts < n = omega arith in
    let one = items_complete (statement_at_exact d) n brace [] g refl fits in
    let two = items_complete (statement_at_exact d) n brace [] h refl fits in
    (both_are a b (brace ∷ []) (brace ∷ []) (sym one ∙ two)).0

module _ {G : Gram StatementTree} {r : Reader StatementTree} (p : ExactStatement G r) where
  some_items : (n : ℕ) (ts : List Lexeme) → length ts < n → Balanced ts → (ss : List StatementTree) × Items G ts ss
  some_items zero ts lt m = absurd (omega arith)
  some_items (suc n) [] lt m = ([], no_item refl refl)
  some_items (suc n) (t ∷ ts) lt m = by (r (t ∷ ts ++ brace ∷ [])) (λ us lt1 m1. some_items n us lt1 m1) refl
    where
      by : (x : Read StatementTree) → ((us : List Lexeme) → length us < n → Balanced us → (ss : List StatementTree) × Items G us ss) → r (t ∷ ts ++ brace ∷ []) ≡ x → (ss : List StatementTree) × Items G (t ∷ ts) ss
      by (Ok x) next e =
          let one = p.sound (t ∷ ts ++ brace ∷ []) x.0 x.1 e in
          let w = front_within brace one.front (t ∷ ts) x.1 [] refl (p.balanced one.is) m one.parts in
          let some : 0 < length one.front = statement_some p one.front x.0 one.is in
          let fits : length w.0 < n = omega (arith, ap length w.1, length-append one.front w.0) in
          let more = next w.0 fits w.3 in
          (x.0 ∷ more.0, an_item one.is (ends_nearer x.0 w.0 (brace ∷ []) (subst (EndsBefore x.0) w.2 one.follows)) more.1 w.1 refl)
      by (Err s) next e = (unread (t ∷ ts) ∷ [], an_unread m (none_begins p (t ∷ ts ++ brace ∷ []) (t ∷ ts) s brace [] e refl refl) refl refl)

pub some_body : SomeBody
some_body d ts m = some_items (statement_at_exact d) (suc (length ts)) ts (omega arith) m

-- what is read up to a brace is a body
pub body_is : (d : ℕ) (ts : List Lexeme) (ss : List StatementTree) → items_at (suc (length ts)) (statement_at d) (ts ++ brace ∷ []) ≡ Ok (ss, brace ∷ []) → IsBody d ts ss
body_is d ts ss h =
    let r = items_sound (statement_at_exact d) (suc (length ts)) (ts ++ brace ∷ []) ss (brace ∷ []) h in
    subst (λ z. IsBody d z ss) (sym (append_cancel_right ts r.front (brace ∷ []) r.parts)) r.is

pub worked : Worked
unfolding closed_at held_up_to phrase_at condition_at named_front label_at labels_at items_at block_at if_at switch_at while_at do_at for_at goto_at return_at word_at simple_at unlabelled_of statement_of statement_at
worked = record {
  nearest = body_is 3 two_choices (two_choices_tree ∷ []) refl;
  own_colon = body_is 1 labels (labels_tree ∷ []) refl;
  left_unread = body_is 1 (word 97 1 ∷ sign T.Semicolon 2 ∷ no_condition) (simple (word 97 1 ∷ []) ∷ unread no_condition ∷ []) refl;
  too_deep = body_is 1 two_choices (unread two_choices ∷ []) refl;
}
