-- What is in scope (C11 6.2.1): names and tags, each with what its declaration makes of it.
use Rattle.std.specs.Prelude.{ℕ, List, [], Bool, Option}
use Rattle.px_base.specs.declared.trace.Site.{Site}
use Rattle.px_real_types.specs.declared.shape.ProfileType.{ProfileType}
use Rattle.px_real_types.specs.declared.known.Known.{Known}
use Rattle.px_real_types.specs.declared.known.Member.{Member}

-- the type of a function: its parameters in order, of which those that aren't of the profile are erased, whether it takes more arguments, and
-- the type of its result, if that is of the profile
pub record FunctionTree : Type 0 where
  pub parameters : List (Option ProfileType)
  pub takes_more : Bool
  pub result : Option ProfileType

-- what a name means
pub data MeaningTree : Type 0 where
  a_type : Known → MeaningTree
  -- with its value, where that is written as a constant or counted from one
  an_enumerator : Option ℕ → MeaningTree
  -- with the word of its type
  an_object : Known → List ℕ → MeaningTree
  -- with the word of its result's type
  a_function : FunctionTree → List ℕ → MeaningTree
  -- a local of the profile, by its number
  a_local : ℕ → ProfileType → MeaningTree

-- what a tag means: a struct or union, by its number, or an enumeration
pub data TagTree : Type 0 where
  a_record : ℕ → TagTree
  an_enumeration : TagTree

-- names and tags have name spaces of their own (6.2.3); a struct or union without a tag is found by its place
pub data BindingTree : Type 0 where
  begins_block : BindingTree
  of_name : List ℕ → MeaningTree → BindingTree
  of_tag : List ℕ → TagTree → BindingTree
  of_place : Site → ℕ → BindingTree

-- a member of a struct or union, with its name
pub record NamedTree : Type 0 where
  pub name : List ℕ
  pub member : Member

-- a struct or union that is defined, by its number
pub record DefinitionTree : Type 0 where
  pub number : ℕ
  pub members : List NamedTree

pub record Scopes : Type 0 where
  -- what is in scope, the nearest first
  pub bindings : List BindingTree
  -- the structs and unions of the file by their numbers: whether each is a struct
  pub records : List Bool
  -- those that are defined, the last first
  pub definitions : List DefinitionTree
  -- the structs of which nothing is seen, by their numbers
  pub hidden : List Bool

-- nothing is in scope
abbrev pub nothing_in_scope : List Bool → Scopes
nothing_in_scope hidden = record { bindings = []; records = []; definitions = []; hidden = hidden }
