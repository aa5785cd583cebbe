-- What the answer of the readers says of all that stands there.
use Rattle.std.proofs.Common.{◌≡◌, List, [], Ok}
use Rattle.px_real_expressions.specs.Lexemes.{Lexeme}
use Rattle.px_real_symbols.specs.declared.fault.Fault.{Fault}
use Rattle.px_real_symbols.specs.Answers.{IsFaultOf}
use Rattle.px_real_declarations.specs.DeclarationTree.{DeclarationTree, EnumeratorTree, ParametersTree, HeadTree}
use Rattle.px_real_declarations.specs.Grammar.{Types, Members, Enumerators, Parameters, IsHead}
use Rattle.px_real_declarations.specs.HeldReading.{members_at, enumerators_at, parameters_at, head_at}
use Rattle.px_real_declarations.proofs.MemberExact.{members_whole_sound, members_whole_complete, head_sound, head_complete}
use Rattle.px_real_declarations.proofs.HeldExact.{enumerators_sound, enumerators_complete, parameters_sound, parameters_complete}
use Rattle.px_real_declaring.specs.declared.reading.DeclarationFault.{DeclarationFault}
use Rattle.px_real_declaring.specs.Items.{nesting_limit}
use Rattle.px_real_declaring.specs.Whole.{whole_by, SameKind, NoneIs}
use Rattle.px_real_declaring.proofs.WholeLemmas.{found, none_found}

pub members_found : (types : Types) (ts : List Lexeme) (ds : List DeclarationTree) → whole_by (members_at types nesting_limit) ts ≡ Ok (ds, []) → Members types nesting_limit ts ds
members_found types ts ds h = found (members_at types nesting_limit) ts (members_whole_sound types nesting_limit ts) ds h

pub no_members : (types : Types) (ts all : List Lexeme) (e : Fault) (x : DeclarationFault) → SameKind e x → IsFaultOf all e (whole_by (members_at types nesting_limit) ts) → NoneIs (Members types nesting_limit ts) x
no_members types ts all e x same h = none_found (members_at types nesting_limit) ts (λ a m. members_whole_complete types nesting_limit m) all e x same h

pub enumerators_found : (ts : List Lexeme) (es : List EnumeratorTree) → whole_by enumerators_at ts ≡ Ok (es, []) → Enumerators ts es
enumerators_found ts es h = found enumerators_at ts (enumerators_sound ts) es h

pub no_enumerators : (ts all : List Lexeme) (e : Fault) (x : DeclarationFault) → SameKind e x → IsFaultOf all e (whole_by enumerators_at ts) → NoneIs (Enumerators ts) x
no_enumerators ts all e x same h = none_found enumerators_at ts (λ a m. enumerators_complete m) all e x same h

pub parameters_found : (types : Types) (ts : List Lexeme) (p : ParametersTree) → whole_by (parameters_at types nesting_limit) ts ≡ Ok (p, []) → Parameters types nesting_limit ts p
parameters_found types ts p h = found (parameters_at types nesting_limit) ts (parameters_sound types nesting_limit ts) p h

pub no_parameters : (types : Types) (ts all : List Lexeme) (e : Fault) (x : DeclarationFault) → SameKind e x → IsFaultOf all e (whole_by (parameters_at types nesting_limit) ts) → NoneIs (Parameters types nesting_limit ts) x
no_parameters types ts all e x same h = none_found (parameters_at types nesting_limit) ts (λ a m. parameters_complete types nesting_limit m) all e x same h

pub head_found : (types : Types) (ts : List Lexeme) (h : HeadTree) → whole_by (head_at types nesting_limit) ts ≡ Ok (h, []) → IsHead types nesting_limit ts h
head_found types ts h g = found (head_at types nesting_limit) ts (head_sound types nesting_limit ts) h g

pub no_head : (types : Types) (ts all : List Lexeme) (e : Fault) (x : DeclarationFault) → SameKind e x → IsFaultOf all e (whole_by (head_at types nesting_limit) ts) → NoneIs (IsHead types nesting_limit ts) x
no_head types ts all e x same h = none_found (head_at types nesting_limit) ts (λ a m. head_complete types nesting_limit m) all e x same h
