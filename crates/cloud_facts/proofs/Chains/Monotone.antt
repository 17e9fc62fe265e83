-- What is known of links stays where links join; versions that end where the next link begins.
use Rattle.std.proofs.Common.{◌≡◌, ◌+◌, ◌≤◌, ℕ, suc, List, [], ◌∷◌, Option, Some, None, refl, sym, subst, ◌⊎◌, inl, inr, arith}
use Rattle.std.specs.Prelude.{slice_get}
use Rattle.cloud_facts.specs.Words.{IsClient, Link, Node, Leafy, Branch, IsIn, StandsAt}
use Rattle.node_codec.specs.Node.{Entry}
use Rattle.cloud_facts.specs.Book.Tally.{low_of}
use Rattle.cloud_facts.specs.Chains.Chain.{NamesRight, IsVersionOf, IsCovered}
use Rattle.cloud_facts.specs.Chains.Landing.{IsPiece, ArePieces, first_or}
use Rattle.cloud_facts.specs.Chains.Links.{Ascends, IsOfLevel, EndsBefore, NamesBelow, NodeNames}
use Rattle.cloud_facts.proofs.Chains.Names.{plus_one}
use Rattle.cloud_facts.proofs.Chains.Pieces.{none_in, in_cases, ascend_next}

-- links stay, from one chain to another
abbrev pub Stay : (ℕ → List Link) → (ℕ → List Link) → Type 0
Stay chain more = (level : ℕ) (a : Link) → IsIn (chain level) a → IsIn (more level) a

pub names_stay : (chain more : ℕ → List Link) → Stay chain more → (level : ℕ) (low : List ℕ) (entries : List Entry)
    → NamesBelow chain level low entries → NamesBelow more level low entries
names_stay chain more stay level low entries n = record {
  height = n.height;
  links = record { names = λ e h. stay _ _ (n.links.names e h); first = n.links.first };
}

pub node_names_stay : (chain more : ℕ → List Link) → Stay chain more → (node : Node) → NodeNames chain node → NodeNames more node
node_names_stay chain more stay (Leafy l) n = tt
node_names_stay chain more stay (Branch b) n = names_stay chain more stay b.level b.low b.entries n

pub version_stays : (links more : List Link) → ((a : Link) → IsIn links a → IsIn more a) → (level : ℕ) (link : Link) (node : Node)
    → IsVersionOf links level link node → IsVersionOf more level link node
version_stays links more stay level link node v = record {
  level_is = v.level_is;
  low = v.low;
  right = λ ne. further (v.right ne);
  last = v.last;
}
  where
    further : NamesRight links link node → NamesRight more link node
    further r = record { next = r.next; linked = stay r.next r.linked; page_is = r.page_is; high_is = r.high_is; beyond = r.beyond }

-- a node that ends where the next link of its level begins is a version of its link's page
pub version_ends : (links : List Link) (level place : ℕ) (link : Link) (node : Node) → Ascends links → ((a : Link) → IsIn links a → 1 ≤ a.page)
    → StandsAt links place link
    → IsOfLevel level node → low_of node ≡ link.low → EndsBefore node (slice_get links (place + 1)) → IsVersionOf links level link node
version_ends links level place link node up some there level_is low ends =
    on (slice_get links (suc place)) refl (subst (λ (n : ℕ). EndsBefore node (slice_get links n)) (sym (plus_one place)) ends)
  where
    on : (next : Option Link) → slice_get links (suc place) ≡ next → EndsBefore node next → IsVersionOf links level link node
    on None e d = record { level_is = level_is; low = low; right = λ ne. absurd (ne d.right); last = λ z. d.high }
    on (Some next) e d =
        let one : 1 ≤ next.page = some next (suc place, e) in
        record {
          level_is = level_is;
          low = low;
          right = λ ne. record {
            next = next;
            linked = (suc place, e);
            page_is = sym d.right;
            high_is = d.high;
            beyond =
                ascend_next None links place link next up there e;
          };
          last = λ z. absurd (omega (arith, d.right, z, one));
        }

pub ends_by : (n m : Node) (o p : Option Link) → n ≡ m → o ≡ p → EndsBefore n o → EndsBefore m p
ends_by n m o p e f h = subst (λ (x : Node). EndsBefore x p) e (subst (λ (q : Option Link). EndsBefore n q) f h)

-- each of the pieces is one
pub piece_in : (nodes : ℕ → List Node) (level : ℕ) (pieces : List Link) (after : Option Link) → ArePieces nodes level pieces after → (a : Link) → IsIn pieces a
    → (next : Option Link) × IsPiece nodes level a next
piece_in nodes level [] after are a h = absurd (none_in a h)
piece_in nodes level (p ∷ pieces) after are a h = on (piece_in nodes level pieces after are.1 a) (in_cases p pieces a h)
  where
    on : (IsIn pieces a → (next : Option Link) × IsPiece nodes level a next) → (p ≡ a) ⊎ IsIn pieces a → (next : Option Link) × IsPiece nodes level a next
    on again (inl e) = (first_or after pieces, subst (λ (x : Link). IsPiece nodes level x (first_or after pieces)) e are.0)
    on again (inr k) = again k

-- what a table says stays within what is done
pub covered_more : (done more : List ℕ → ℕ → ℕ → ℕ) → ((key : List ℕ) (page client : ℕ) → IsClient client
    → done key page client ≤ more key page client) → (node : Node)
    → IsCovered done node → IsCovered more node
covered_more done more rises (Leafy l) h = λ key held page client c. omega (arith, h key held page client c, rises key page client c)
covered_more done more rises (Branch n) h = tt
