-- What is made of operands, by what the code tests of them.
use Rattle.std.proofs.Common.{◌≡◌, ◌≢◌, refl, sym, subst, Bool, true, false, ◌&&◌, ◌++◌, List, ℕ, Option, Some, None, Result, Vec, Global, is_some, IfOk, codes}
use Rattle.std.specs.Prelude.{if◌then◌else◌}
use Rattle.px_base.specs.declared.trace.Site.{Site}
use Rattle.px_expressions.specs.Reading.{or_else}
use Rattle.px_syntax.specs.declared.typed_expression.Arithmetic.{Arithmetic}
use Rattle.px_syntax.specs.declared.typed_expression.Relation.{Relation}
use Rattle.px_syntax.specs.declared.typed_expression.TypedExpression.{TypedExpression}
use Rattle.px_syntax.specs.TypedTree as T
use Rattle.px_syntax.specs.TypedTree.{Expression}
use Rattle.px_real_expressions.specs.declared.operators.Operator.{Operator}
use Rattle.px_real_expressions.specs.declared.operators.Prefix.{Prefix}
use Rattle.px_real_expressions.specs.declared.operators.Prefix.TheVariants as P
use Rattle.px_terms.specs.declared.types.TypeId.{TypeId}
use Rattle.px_real_types.specs.declared.known.Known.{Known}
use Rattle.px_real_types.specs.declared.shape.ProfileType.{ProfileType}
use Rattle.px_real_values.specs.declared.operand.Operand.{Operand as Kept}
use Rattle.px_real_values.specs.declared.operand.Operand.TheVariants as V
use Rattle.px_real_types.specs.Types.{int}
use Rattle.px_real_values.specs.Environment.{Environment}
use Rattle.px_real_values.specs.Operands.{Operand, of_type, a_test, outside, parts, known_of, typed_as, needed, unwanted, unless_stopped}
use Rattle.px_real_values.specs.Operators.{operator_text, outside_of, stopped_at, computed, divided, compared, negated, taking, prefixed, member_in, known_member, dotted}
use Rattle.px_real_values.specs.Views.{operand_seen}

-- what is given is also that
pub given_as : {A B E : Type 0} (see : A → B) (r : Result A E) (x y : B) → x ≡ y → IfOk r (λ a. see a ≡ x) → IfOk r (λ a. see a ≡ y)
given_as see r x y e h = subst (λ z. IfOk r (λ a. see a ≡ z)) e h

-- ---- values, or none

pub some_if : {A : Type 0} (b : Bool) (x : A) → is_some (if b then Some x else None) ≡ b
some_if true x = refl
some_if false x = refl

pub some_of_two : {A : Type 0} (b : Bool) (x y : A) → is_some (if b then Some x else Some y) ≡ true
some_of_two true x y = refl
some_of_two false x y = refl

pub ruleset tests = (some_if, some_of_two)

pub one_value : {B : Type 0} (o : Option Expression) (f : Expression → B) (d : B) (u : Expression) → is_some o ≡ true → or_else o f d ≡ f (or_else o (λ e. e) u)
one_value (Some x) f d u h = refl
one_value None f d u h = absurd cc

two_values : {B : Type 0} (o p : Option Expression) (f : Expression × Expression → B) (d : B) (u v : Expression) → (is_some o && is_some p) ≡ true →
    or_else (or_else o (λ x. or_else p (λ y. Some (x, y)) None) None) f d ≡ f (or_else o (λ e. e) u, or_else p (λ e. e) v)
two_values (Some x) (Some y) f d u v h = refl
two_values (Some x) None f d u v h = absurd cc
two_values None p f d u v h = absurd cc

not_two : {B : Type 0} (o p : Option Expression) (f : Expression × Expression → B) (d : B) → (is_some o && is_some p) ≡ false → or_else (or_else o (λ x. or_else p (λ y. Some (x, y)) None) None) f d ≡ d
not_two (Some x) (Some y) f d h = absurd cc
not_two (Some x) None f d h = refl
not_two None p f d h = refl

module _ (env : Environment) (site : Site) (a b : Operand) where
  module _ (h : (is_some (typed_as env int a) && is_some (typed_as env int b)) ≡ true) (op : Arithmetic) (o : Operator) where
    pub computed_ints : of_type int site (T.arithmetic op (needed env site int a) (needed env site int b)) ≡ computed env op o site a b
    computed_ints = sym (two_values (typed_as env int a) (typed_as env int b) (λ x. of_type int site (T.arithmetic op x.0 x.1)) (outside_of env (operator_text o) site (parts env a ++ parts env b)) (unwanted env site a) (unwanted env site b) h)

    pub divided_ints : of_type int site (T.arithmetic op (needed env site int a) (needed env site int b)) ≡ divided env op o site a b
    divided_ints = sym (two_values (typed_as env int a) (typed_as env int b) (λ x. of_type int site (T.arithmetic op x.0 x.1)) (stopped_at env (operator_text o) site (parts env a ++ parts env b)) (unwanted env site a) (unwanted env site b) h)

  module _ (h : (is_some (typed_as env int a) && is_some (typed_as env int b)) ≡ false) (op : Arithmetic) (o : Operator) where
    pub computed_others : outside_of env (operator_text o) site (parts env a ++ parts env b) ≡ computed env op o site a b
    computed_others = sym (not_two (typed_as env int a) (typed_as env int b) (λ x. of_type int site (T.arithmetic op x.0 x.1)) (outside_of env (operator_text o) site (parts env a ++ parts env b)) h)

    pub divided_others : stopped_at env (operator_text o) site (parts env a ++ parts env b) ≡ divided env op o site a b
    divided_others = sym (not_two (typed_as env int a) (typed_as env int b) (λ x. of_type int site (T.arithmetic op x.0 x.1)) (stopped_at env (operator_text o) site (parts env a ++ parts env b)) h)

  module _ (t : ProfileType) (r : Relation) (o : Operator) where
    pub compared_values : (is_some (typed_as env t a) && is_some (typed_as env t b)) ≡ true → a_test (T.compare r (needed env site t a) (needed env site t b) site) ≡ compared env t r o site a b
    compared_values h = sym (two_values (typed_as env t a) (typed_as env t b) (λ x. a_test (T.compare r x.0 x.1 site)) (outside_of env (operator_text o) site (parts env a ++ parts env b)) (unwanted env site a) (unwanted env site b) h)

    pub compared_others : (is_some (typed_as env t a) && is_some (typed_as env t b)) ≡ false → outside_of env (operator_text o) site (parts env a ++ parts env b) ≡ compared env t r o site a b
    compared_others h = sym (not_two (typed_as env t a) (typed_as env t b) (λ x. a_test (T.compare r x.0 x.1 site)) (outside_of env (operator_text o) site (parts env a ++ parts env b)) h)

module _ (env : Environment) (site : Site) (a : Operand) where
  pub negated_int : is_some (typed_as env int a) ≡ true → of_type int site (T.negated (needed env site int a)) ≡ negated env site a
  negated_int h = sym (one_value (typed_as env int a) (λ x. of_type int site (T.negated x)) (outside_of env (codes "-") site (parts env a)) (unwanted env site a) h)

-- most operators before an operand take its value
pub prefixed_else : (env : Environment) (p : Prefix) (site : Site) (a : Operand) → p ≢ P.Address → p ≢ P.Increment → p ≢ P.Decrement → p ≢ P.Extension → unless_stopped a (taking env p site) ≡ prefixed env p site a
prefixed_else env P.Address site a no_address no_increment no_decrement no_extension = absurd (no_address refl)
prefixed_else env P.Indirection site a no_address no_increment no_decrement no_extension = refl
prefixed_else env P.Plus site a no_address no_increment no_decrement no_extension = refl
prefixed_else env P.Minus site a no_address no_increment no_decrement no_extension = refl
prefixed_else env P.Complement site a no_address no_increment no_decrement no_extension = refl
prefixed_else env P.Not site a no_address no_increment no_decrement no_extension = refl
prefixed_else env P.Increment site a no_address no_increment no_decrement no_extension = absurd (no_increment refl)
prefixed_else env P.Decrement site a no_address no_increment no_decrement no_extension = absurd (no_decrement refl)
prefixed_else env P.Extension site a no_address no_increment no_decrement no_extension = absurd (no_extension refl)
prefixed_else env P.Real site a no_address no_increment no_decrement no_extension = refl
prefixed_else env P.Imaginary site a no_address no_increment no_decrement no_extension = refl

-- a member of anything but a member outside, a struct, an object and a `Stop` is made of its parts
abbrev pub member_outside : Environment → Site → List ℕ → Operand → Operand
member_outside env site name a = known_member env site (parts env a) (λ m. outside m (parts env a) (env.word_number (codes ".")) site) (member_in env name (known_of a))

pub dotted_else : (env : Environment) (site : Site) (name : List ℕ) (o : Kept) →
    ((k : Known) (e : TypedExpression) (block : TypeId) (access : Site) (word : ℕ) (at : Site) → o ≢ V.Member k e block access word at) →
    ((n : ℕ) (e : TypedExpression) (word : ℕ) (at : Site) → o ≢ V.Struct n e word at) →
    ((k : Known) (ps : Vec TypedExpression Global) (word : ℕ) (at : Site) → o ≢ V.Object k ps word at) →
    ((ps : Vec TypedExpression Global) (word : ℕ) (at : Site) → o ≢ V.Stopped ps word at) →
    member_outside env site name (operand_seen o) ≡ dotted env site name (operand_seen o)
dotted_else env site name (V.OfType t at e) no_member no_struct no_object no_stop = refl
dotted_else env site name (V.Zero at) no_member no_struct no_object no_stop = refl
dotted_else env site name (V.Null word at) no_member no_struct no_object no_stop = refl
dotted_else env site name (V.Test c) no_member no_struct no_object no_stop = refl
dotted_else env site name (V.Block t at) no_member no_struct no_object no_stop = refl
dotted_else env site name (V.Named callee k word at) no_member no_struct no_object no_stop = refl
dotted_else env site name (V.Member k e block access word at) no_member no_struct no_object no_stop = absurd (no_member k e block access word at refl)
dotted_else env site name (V.Outside k ps word at) no_member no_struct no_object no_stop = refl
dotted_else env site name (V.Struct n e word at) no_member no_struct no_object no_stop = absurd (no_struct n e word at refl)
dotted_else env site name (V.Object k ps word at) no_member no_struct no_object no_stop = absurd (no_object k ps word at refl)
dotted_else env site name (V.Stopped ps word at) no_member no_struct no_object no_stop = absurd (no_stop ps word at refl)
