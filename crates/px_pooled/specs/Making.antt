-- How a book of a program stands while the program itself goes on with it.
use Rattle.std.specs.Prelude.{◌≡◌, ℕ, ◌≤◌, List, length, map, Some, ⊤}
use Rattle.std.specs.List.{AllByRecursion}
use Rattle.px_base.specs.Bounds.{most_parameters}
use Rattle.px_base.specs.LimitNumbers.{LimitNumbers}
use Rattle.px_core.specs.declared.body.Body.{Body}
use Rattle.px_core.specs.BodyTree.{body_tree}
use Rattle.px_syntax.specs.ProgramTree.{ProgramTree}
use Rattle.px_pieces.specs.declared.desk.Event.{Event}
use Rattle.px_pieces.specs.declared.desk.Event.TheVariants.{Claim, Publish, Lose}
use Rattle.px_pieces.specs.declared.desk.Who.TheVariants.{Parent, Worker}
use Rattle.px_pieces.specs.Desk.{IsHeldUnder}
use Rattle.px_findings.specs.Bodies.{body_or_empty}
use Rattle.px_findings.specs.Found.{body_in, out_of}
use Rattle.px_jobs.specs.Sources.{SourceParts}
use Rattle.px_callgraph.specs.CallGraphs.{bodies_in, IsGraphOf}
use Rattle.px_callgraph.specs.declared.jobs.Job.{Job}
use Rattle.px_pieces.specs.Pieces.{PieceParts}
use Rattle.px_book.specs.Books.{BookParts, statuses_in, claimed, published, IsGiven}
use Rattle.px_pooled.specs.declared.parts.Parts.{Parts}

-- what the jobs of a program's procedures are made of, within limits, with the help of domains of these kinds
pub record AreSourcesOf (P : ProgramTree) (limits : LimitNumbers) (kinds : List ℕ) (s : SourceParts) : Type 0 where
  pub bodies : map body_tree s.bodies ≡ map (λ p. body_or_empty (body_in (Some p))) P.procedures
  pub types : s.types ≡ P.types
  pub limits_are : s.limits ≡ limits
  pub kinds_are : s.kinds ≡ kinds
  pub out : s.out ≡ out_of P

-- no body has more parameters than are analysed
abbrev pub AreFew : List Body → Type 0
AreFew bodies = AllByRecursion (λ (x : Body). length x.parameters ≤ most_parameters) bodies

-- the sources that parts have
abbrev pub sources_in : Parts → SourceParts
sources_in p = record { bodies = p.desk.bodies; types = p.types; limits = p.limits; kinds = p.kinds; out = p.desk.out }

-- parts of a book of the program
pub record ArePartsOf (P : ProgramTree) (limits : LimitNumbers) (kinds : List ℕ) (p : Parts) : Type 0 where
  pub sources : AreSourcesOf P limits kinds (sources_in p)
  pub many : p.desk.kept ≡ length P.procedures
  pub many_bodies : length p.desk.bodies ≡ p.desk.kept
  pub many_graph : length p.desk.graph ≡ p.desk.kept
  pub graph : IsGraphOf (bodies_in p.desk.bodies) p.desk.graph
  -- no body has more parameters than are analysed
  pub few : AreFew p.desk.bodies

-- a book of the program's own parts
pub record IsOwn (P : ProgramTree) (limits : LimitNumbers) (kinds : List ℕ) (b : BookParts) : Type 0 where
  pub sources : AreSourcesOf P limits kinds b.sources
  pub many : length b.graph ≡ length P.procedures

-- nothing is held
abbrev pub IsIdle : BookParts → Type 0
IsIdle b = (ticket f : ℕ) → ¬ IsHeldUnder (statuses_in b) ticket f

-- the parent claims or publishes
abbrev pub IsOfParent : Event → Type 0
IsOfParent (Claim Parent p) = ⊤
IsOfParent (Claim (Worker n) p) = ⊥
IsOfParent (Publish t) = ⊤
IsOfParent (Lose t why) = ⊥

-- all that happened is of the parent
abbrev pub AreOfParent : List Event → Type 0
AreOfParent h = AllByRecursion IsOfParent h

-- the parent claims a procedure that it may, and publishes an answer to its job
abbrev pub IsTurn : BookParts → BookParts → Type 0
IsTurn b c = (j : Job) × (p : PieceParts) × IsGiven b Parent (Some j) × (p.job ≡ j) × (c ≡ published (claimed b Parent (Some j)) j.ticket p)
