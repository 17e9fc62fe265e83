-- The first words of lines.
use Rattle.std.specs.Prelude.{ℕ, Bool, true, false, List, [], ◌∷◌, Option, codes}
use Rattle.std.specs.List.{find}
use Rattle.std.specs.Str.{bytes_eq}
use Rattle.event_text.specs.declared.keyword.Keyword.{Keyword}
use Rattle.event_text.specs.declared.keyword.Keyword.TheVariants.{Open, Close, Renew, Insert, Put, Update, Delete, Add, Commit, Abort, Read, Scan, Lookup, Page, Tree, Policy, Work, Step, Run, Crash, Wait, Report, Sweep, Settle}

-- the spelling of a keyword
abbrev pub keyword_text : Keyword → List ℕ
keyword_text Open = codes "open"
keyword_text Close = codes "close"
keyword_text Renew = codes "renew"
keyword_text Insert = codes "insert"
keyword_text Put = codes "put"
keyword_text Update = codes "update"
keyword_text Delete = codes "delete"
keyword_text Add = codes "add"
keyword_text Commit = codes "commit"
keyword_text Abort = codes "abort"
keyword_text Read = codes "read"
keyword_text Scan = codes "scan"
keyword_text Lookup = codes "lookup"
keyword_text Page = codes "page"
keyword_text Tree = codes "tree"
keyword_text Policy = codes "policy"
keyword_text Work = codes "work"
keyword_text Step = codes "step"
keyword_text Run = codes "run"
keyword_text Crash = codes "crash"
keyword_text Wait = codes "wait"
keyword_text Report = codes "report"
keyword_text Sweep = codes "sweep"
keyword_text Settle = codes "settle"

-- all keywords
abbrev pub keywords : List Keyword
keywords = Open ∷ Close ∷ Renew ∷ Insert ∷ Put ∷ Update ∷ Delete ∷ Add ∷ Commit ∷ Abort ∷ Read ∷ Scan ∷ Lookup ∷ Page ∷ Tree ∷ Policy ∷ Work ∷ Step ∷ Run ∷ Crash ∷ Wait ∷ Report ∷ Sweep ∷ Settle ∷ []

-- the keyword that a word spells
abbrev pub keyword_of : List ℕ → Option Keyword
keyword_of word = find (λ keyword. bytes_eq (keyword_text keyword) word) keywords

-- whether a shell's line may begin with a keyword
abbrev pub is_shell : Keyword → Bool
is_shell Insert = true
is_shell Update = true
is_shell Delete = true
is_shell Add = true
is_shell Commit = true
is_shell Abort = true
is_shell Read = true
is_shell Scan = true
is_shell Page = true
is_shell Tree = true
is_shell Renew = true
is_shell Open = false
is_shell Close = false
is_shell Step = false
is_shell Run = false
is_shell Crash = false
is_shell Wait = false
is_shell Report = false
is_shell Sweep = false
is_shell Settle = false
is_shell Put = false
is_shell Lookup = false
is_shell Policy = false
is_shell Work = false
