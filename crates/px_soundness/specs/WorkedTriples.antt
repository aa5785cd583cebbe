-- The entries of three small procedures are valid triples.
use Rattle.std.specs.Prelude.{List, [], ◌∷◌, Option, Some, None, pos, slice_get}
use Rattle.px_base.specs.declared.trace.Mark.{Mark}
use Rattle.px_base.specs.declared.trace.MarkKind.TheVariants as mark
use Rattle.px_base.specs.declared.trace.Kind.TheVariants.{DoubleFree, DivisionByZero}
use Rattle.px_terms.specs.declared.types.ValueType.TheVariants.{Int, Pointer}
use Rattle.px_terms.specs.declared.types.Value.{Value}
use Rattle.px_terms.specs.declared.types.Value.TheVariants as value
use Rattle.px_terms.specs.declared.variables.VarInfo.{VarInfo}
use Rattle.px_terms.specs.declared.variables.Sort.TheVariants as sort
use Rattle.px_terms.specs.declared.conjuncts.Content.{Content}
use Rattle.px_terms.specs.declared.conjuncts.Conj.{Conj}
use Rattle.px_terms.specs.declared.conjuncts.Conj.TheVariants as conjunct
use Rattle.px_core.specs.declared.command.Operand.TheVariants as operand
use Rattle.px_core.specs.CommandTree.{commands_of, read, call, divide, return}
use Rattle.px_entry.specs.declared.atoms.Atom.{Atom}
use Rattle.px_entry.specs.declared.entries.Entry.{Entry}
use Rattle.px_entry.specs.declared.entries.Exit.{Exit}
use Rattle.px_entry.specs.declared.entries.Exit.TheVariants.{Ok, Error}
use Rattle.px_callgraph.specs.declared.jobs.Callee.TheVariants.{Table as TableOf}
use Rattle.px_callgraph.specs.JobTree.{JobTree}
use Rattle.px_callgraph.specs.WorkedStates.{int_block, proc, var, of_sort, constant, x_plus, word_of}
use Rattle.px_callgraph.specs.WorkedPaths.{site, mark_at, job_of, two_frees, p_is_null, unknown, freed, a_cell, nulls, twice}
use Rattle.px_meaning.specs.CoreCalls.{CoreProgram, CoreCalls}
use Rattle.px_meaning.specs.Triples.{IsValid}

abbrev pub an_entry : Exit → List Mark → List VarInfo → List Conj → List Atom → List Atom → List Value → Entry
an_entry exit trace cells pure pre post model = record {
  proc = proc 0;
  trace = trace;
  exit = exit;
  result = None;
  vars = of_sort sort.Given (Pointer int_block) ∷ cells;
  pure = pure;
  pre = pre;
  post = post;
  model = model;
}

-- of `void h(int *p){free(p);free(p);}`: a live block is freed, and freed again
abbrev pub freed_twice : Entry
freed_twice = an_entry (Error DoubleFree (site 24)) twice (a_cell ∷ []) [] (unknown 1 ∷ []) (freed ∷ []) (value.Block 1 ∷ value.Word (pos 0) ∷ [])

-- `void g(int *p){h(p);}`, whose callee has this entry
abbrev pub calls_it : JobTree
calls_it = record two_frees {
  proc = proc 1;
  body = record {
    slots = 1;
    parameters = Pointer int_block ∷ [];
    result = None;
    commands = commands_of (read 0 (site 50) ∷ call None (proc 0) (operand.Slot 0 ∷ []) (site 48) ∷ []);
  };
  callees = (proc 0, TableOf (record { entries = freed_twice ∷ []; drops = [] })) ∷ [];
}

-- the program of both
abbrev pub program : CoreProgram
program = record { types = two_frees.types; bodies = λ f. slice_get (two_frees.body ∷ calls_it.body ∷ []) f }

-- `int q(int n){return 10/n;}`
abbrev pub ten_over : JobTree
ten_over = record (job_of 3 2 (Int ∷ []) []) {
  body = record {
    slots = 2;
    parameters = Int ∷ [];
    result = Some Int;
    commands = commands_of (read 0 (site 24) ∷ divide 1 (operand.Word (pos 10)) (operand.Slot 0) (site 23) ∷ return (Some (operand.Slot 1)) ∷ []);
  };
}

abbrev pub divides : CoreProgram
divides = record { types = ten_over.types; bodies = λ f. slice_get (ten_over.body ∷ []) f }

abbrev pub of_ten_over : Exit → Option Content → List VarInfo → List Conj → List Value → Entry
of_ten_over exit result inputs pure model = record {
  proc = proc 0;
  trace = [];
  exit = exit;
  result = result;
  vars = of_sort sort.Given Int ∷ inputs;
  pure = pure;
  pre = [];
  post = [];
  model = model;
}

-- by 0 it is an error, and else the result is the quotient
abbrev pub by_zero : Entry
by_zero = of_ten_over (Error DivisionByZero (site 23)) None [] (conjunct.Equal (x_plus 0 0) ∷ []) (value.Word (pos 0) ∷ [])

abbrev pub by_other : Entry
by_other = of_ten_over Ok (Some (word_of 1)) (of_sort sort.Input Int ∷ []) (conjunct.Unequal (x_plus 0 0) ∷ conjunct.Quotient (var 1) (constant 10) (x_plus 0 0) ∷ []) (value.Word (pos 3) ∷ value.Word (pos 3) ∷ [])

pub record WorkedTriples : Type 0 where
  -- null is freed twice: nothing is asked of the heap, and nothing changes
  pub null : IsValid (CoreCalls program 0) 1 (an_entry Ok nulls [] (p_is_null ∷ []) [] [] (value.Null ∷ []))
  -- a live block is freed, and freed again
  pub live : IsValid (CoreCalls program 0) 1 freed_twice
  -- a block that was freed before the call is freed
  pub freed_before : IsValid (CoreCalls program 0) 1 (an_entry (Error DoubleFree (site 16)) (mark_at mark.Freed 16 ∷ []) [] [] (freed ∷ []) (freed ∷ []) (value.Block 1 ∷ []))
  -- the second without the block in what it leaves is none: the further heap may then have a block of that number
  pub lost : ¬ IsValid (CoreCalls program 0) 1 (an_entry (Error DoubleFree (site 24)) twice (a_cell ∷ []) [] (unknown 1 ∷ []) [] (value.Block 1 ∷ value.Word (pos 0) ∷ []))
  -- the caller's block is freed twice in the call
  pub called : IsValid (CoreCalls program 1) 1 (record freed_twice { proc = proc 1; trace = mark_at (mark.Enter (proc 0)) 48 ∷ twice })
  -- 10 over 0, and over what isn't 0
  pub over_zero : IsValid (CoreCalls divides 0) 1 by_zero
  pub over_other : IsValid (CoreCalls divides 0) 1 by_other
