-- The execution of the worked program with a list.
use Rattle.std.proofs.Common.{◌≡◌, refl, sym, subst, inl, inr, pos, ◌+ℤ◌, ◌≤ℤ◌, rules}
use Rattle.std.specs.Int.{w32, int_wrap}
use Rattle.px_base.specs.declared.trace.Kind.TheVariants.{DoubleFree}
use Rattle.px_meaning.specs.Values.{Block, Unwritten}
use Rattle.px_meaning.specs.Calls.{error, Returned, Failed}
use Rattle.px_meaning.specs.WorkedBodies.{at}
use Rattle.px_meaning.specs.WorkedList.{WorkedListExecution, pushing, dropping}
use Rattle.px_meaning.proofs.Worked.{ten_low, ten_high, less_0, less_1}

wrapped_two : int_wrap w32 (int_wrap w32 (pos 0 +ℤ pos 1) +ℤ pos 1) ≡ pos 2
unfolding int_wrap
wrapped_two = refl

pub enough : pos 2 ≤ℤ int_wrap w32 (int_wrap w32 (pos 0 +ℤ pos 1) +ℤ pos 1)
enough = subst (λ z. pos 2 ≤ℤ z) (sym wrapped_two) two
  where
    two : pos 2 ≤ℤ pos 2
    two = search rules

pub list_fails : WorkedListExecution
list_fails = (
  _,
  (
    9,
    inl (
      less_0,
      (
        tt,
        (
          pushing,
          Returned (Block 0),
          _,
          inr (0, refl, (refl, (refl, (refl, refl, refl)))),
          inl (
            less_1,
            (
              tt,
              (
                pushing,
                Returned (Block 1),
                _,
                inr (1, refl, (refl, (refl, (refl, refl, refl)))),
                inr (
                  enough,
                  (
                    dropping,
                    Returned Unwritten,
                    _,
                    inr ((λ e. cc), (refl, (refl, refl, refl))),
                    (
                      pos 10,
                      ten_low,
                      ten_high,
                      inl (
                        refl,
                        (dropping, Failed (error DoubleFree) (at 14 3), _, inr ((λ e. cc), (refl, (refl, refl, refl))), (refl, refl, refl)),
                      ),
                    ),
                  ),
                ),
              ),
            ),
          ),
        ),
      ),
    ),
  ),
)
