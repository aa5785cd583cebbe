-- Values are of a kind, and a conjunct is true, in one way.
use Rattle.std.proofs.Common.{List}
use Rattle.std.specs.Prelude.{All}
use denote.Struct.Props.{props}
use Rattle.px_terms.specs.Valuations.{Valuation, IsWord, IsPlace, IsUnwritten}
use Rattle.px_terms.specs.Conjuncts.{IsTrueUnder}
use Rattle.px_terms.specs.declared.types.Value.{Value}
use Rattle.px_terms.specs.declared.types.Value.TheVariants as value
use Rattle.px_terms.specs.declared.conjuncts.Conj.{Conj}
use Rattle.px_terms.specs.declared.conjuncts.Conj.TheVariants.{Equal, Unequal, Less, AtMost, SamePlace, OtherPlace, Written, Unwritten, Quotient}

pub is_word : (u : Value) → IsProp (IsWord u)
is_word (value.Word z) = hlevel props
is_word value.Null = hlevel props
is_word (value.Block n) = hlevel props
is_word value.Unwritten = hlevel props

pub is_place : (u : Value) → IsProp (IsPlace u)
is_place (value.Word z) = hlevel props
is_place value.Null = hlevel props
is_place (value.Block n) = hlevel props
is_place value.Unwritten = hlevel props

pub is_unwritten : (u : Value) → IsProp (IsUnwritten u)
is_unwritten (value.Word z) = hlevel props
is_unwritten value.Null = hlevel props
is_unwritten (value.Block n) = hlevel props
is_unwritten value.Unwritten = hlevel props

pub true_prop : (v : Valuation) (c : Conj) → IsProp (IsTrueUnder v c)
true_prop v (Equal p) = hlevel (props, is_word)
true_prop v (Unequal p) = hlevel (props, is_word)
true_prop v (Less p q) = hlevel (props, is_word)
true_prop v (AtMost p q) = hlevel (props, is_word)
true_prop v (SamePlace a b) = hlevel (props, is_place)
true_prop v (OtherPlace a b) = hlevel (props, is_place)
true_prop v (Written x) = hlevel (props, is_unwritten)
true_prop v (Unwritten x) = hlevel (props, is_unwritten)
true_prop v (Quotient x p q) = hlevel (props, is_word)

pub all_true_prop : (v : Valuation) (cs : List Conj) → IsProp (All (IsTrueUnder v) cs)
all_true_prop v cs = hlevel (props, true_prop)
