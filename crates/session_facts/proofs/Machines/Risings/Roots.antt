-- What is planned for the root behind the last node: it is put whole, or its pieces are put and then a root above them.
use Rattle.std.proofs.Common.{◌≡◌, ◌≢◌, ◌+◌, ◌-◌, ◌<◌, ◌≤◌, ◌==◌, inr, ℕ, Bool, true, false, cond, nat_lt, ◌&&◌, List, [], length, Some, None, Result, Ok, Err, refl, sym, ap, subst, ◌∙◌, arith}
use Rattle.std.proofs.lemmas.Bool.{and_parts, eqb-false, eqb-true, ltb-false, ltb-true}
use Rattle.std.proofs.lemmas.List.{append-nil}
use Rattle.byte_format.specs.Format.{greatest}
use Rattle.cloud_facts.specs.Chains.Chain.{IsChained}
use Rattle.cloud_facts.specs.Chains.Links.{NamesBelow}
use Rattle.cloud_facts.specs.Words.{Trouble, Entry, Tree, CloudState, Claim, Book, Store, nodes_of, roots_of, store_of, StandsUnder}
use Rattle.node_codec.proofs.TreeLemmas.{tree_fits}
use Rattle.node_codec.specs.Inner.{node_of_root}
use Rattle.node_codec.specs.Node.{raised}
use Rattle.node_codec.specs.Node.{Entry as Named}
use Rattle.node_codec.specs.Tree.{HasTreeSpelling, IsSoundTree}
use Rattle.split_plan.specs.Part.{entry_key, part_of_node}
use Rattle.split_plan.specs.Plan.{root_pieces}
use Rattle.split_plan.specs.Sizes.{count_of}
use Rattle.tree_phases.specs.declared.reserve.Reserved.{Reserved}
use Rattle.tree_phases.specs.Read.{tree_held}
use Rattle.tree_phases.specs.Reserve.{version_spent, pages_spent, next_tree, reservation}
use Rattle.tree_phases.specs.declared.rising.Rising.{Rising}
use Rattle.tree_phases.specs.declared.root.RootPlan.{RootPlan}
use Rattle.tree_phases.specs.Rising.{plan_of, put_root, finish}
use Rattle.tree_phases.specs.Root.{with_named, risen_by, lowered, cut_at, cut_by, cut_behind, root_cut, uncut, root_plan}
use Rattle.session_facts.specs.Machines.Trees.Placings.{IsReservation}
use Rattle.session_facts.specs.Machines.Risings.Knows.{KnowsUpward, IsRaised, PutsCut, PutsRoot, whole, cut, RisesOn}
use Rattle.session_facts.proofs.Machines.TreeCheckpoints.EntryCounts.{all_ascend}
use Rattle.session_facts.proofs.Machines.Folds.Reads.{Reserving, none, some, reservation_is}
use Rattle.session_facts.proofs.Machines.Trees.Names.{KeepsRest, named_names, named_rest}
use Rattle.session_facts.proofs.Machines.Trees.Reserves.{root_names, reserving_fits, numbered_fits}
use Rattle.session_facts.proofs.Machines.Risings.Grounds.{found_pages, top_numbers}
use Rattle.session_facts.proofs.Machines.Risings.Places.{parts_count}
use Rattle.session_facts.proofs.Machines.Risings.Spells.{named_spelled, root_sound, root_version, root_next, root_numbers, raised_spelled, root_pieces_fit, above_spelled}

module _ (book : Book) (order : List Entry) (s : CloudState) (stands : StandsUnder book order s) (now : ℕ) (lease : Claim) (r : Rising) (ids : List ℕ)
    (k : KnowsUpward (store_of book order s) now lease r.chart r.at ids) where
  abbrev st : Store
  st = store_of book order s

  abbrev tree : ℕ
  tree = r.chart.tree

  abbrev root : Tree
  root = tree_held r.chart.root

  abbrev top : List (ℕ × ℕ)
  top = r.chart.run.top

  -- the root at its next version, with the run's cursor and the links of its level
  abbrev raised_root : Tree
  raised_root = record root { version = root.version + 1; cursor = raised root.cursor top }

  abbrev whole_root : Tree
  whole_root = with_named root.level r.chart.links raised_root

  rest : KeepsRest raised_root whole_root
  rest = named_rest root.level r.chart.links raised_root

  chained : IsChained (book.chain tree) (nodes_of s tree) (roots_of s tree) (st.tally.done tree) (st.tally.cursor tree 0)
  chained = stands.holds.chains tree k.tree

  names : NamesBelow (book.chain tree) whole_root.level [] whole_root.entries
  names =
      subst (λ (l : ℕ). NamesBelow (book.chain tree) l [] whole_root.entries) (sym rest.level)
      (named_names (book.chain tree) root.level r.chart.links raised_root k.links
      (root_names (book.chain tree) (nodes_of s tree) (roots_of s tree) (st.tally.done tree) (st.tally.cursor tree 0) chained root k.root.landed))

  raises : HasTreeSpelling whole_root → IsRaised (book.chain tree) root top whole_root
  raises fits = record { level = rest.level; cursor = rest.cursor; names = names; ascends = all_ascend [] None (whole_root.next - 1) whole_root.entries (tree_fits whole_root fits).entries }

  sound : IsSoundTree root
  sound = root_sound root k.root.spelled

  spelled : root.version ≢ greatest → HasTreeSpelling whole_root
  spelled spare =
      named_spelled root.level r.chart.links raised_root (found_pages book order s stands tree k.tree r.chart.links k.links)
      (raised_spelled root top sound (root_version root k.root.spelled) spare
      (λ c low some.
      top_numbers book order s stands tree k.tree root.cursor r.chart.run ids (λ client is. root_numbers root client sound) k.run.took c
      (record { some = some; most = omega (arith, low) })))

  abbrev Leads : Result RootPlan Trouble → Type 0
  Leads p = RisesOn st now lease ids (put_root r p)

  abbrev with_plan : RootPlan → Rising
  with_plan p = record r { placing = p.placing; last = Some p.last; is_spent = p.is_spent }

  known : (p : RootPlan) → PutsRoot st now lease (with_plan p) p.last → Leads (Ok p)
  known p puts = record { tree = k.tree; root = k.root; run = record { took = k.run.took; done = k.run.done }; puts = puts }

  -- ---- it is put whole

  uncut_leads : HasTreeSpelling whole_root → Leads (Ok (uncut whole_root))
  uncut_leads fits =
      known (uncut whole_root)
      (whole (record {
        root = whole_root;
        raises = raises fits;
        version = rest.version;
        next = rest.next;
        fits = fits;
        bytes_are = refl;
        nothing_reserved = refl;
        no_page = refl;
      }))

  -- ---- it is cut

  abbrev count : ℕ
  count = count_of (length whole_root.entries)

  -- with the numbers of its pieces, at its next version or, where there is none, at the last one
  abbrev CutRoot : Bool → Tree → Type 0
  CutRoot spent t =
      (t.next ≡ whole_root.next + count) × (t.level ≡ whole_root.level) × (t.cursor ≡ whole_root.cursor) × (t.entries ≡ whole_root.entries)
      × (spent ≡ false → t.version ≡ whole_root.version + 1) × HasTreeSpelling t

  cut_known : (bytes : List ℕ) (first : ℕ) → IsReservation root count first bytes → root.level < 255 → (spent : Bool) (cut_root : Tree) → CutRoot spent cut_root
      → (spent ≡ true → root.version + 1 ≡ greatest) → PutsCut st now lease (with_plan (lowered (Some bytes) spent cut_root whole_root.next)) (lowered (Some bytes) spent cut_root whole_root.next).last
  cut_known bytes first is higher spent cut_root (nexts, levels, cursors, entries, versions, fits) last = record {
    root = cut_root;
    raises = record {
      level = levels ∙ rest.level;
      cursor = cursors ∙ rest.cursor;
      names = subst (λ (l : ℕ). NamesBelow (book.chain tree) l [] cut_root.entries) (sym levels)
          (subst (λ (es : List Named). NamesBelow (book.chain tree) whole_root.level [] es) (sym entries) names);
      ascends = all_ascend [] None (cut_root.next - 1) cut_root.entries (tree_fits cut_root fits).entries;
    };
    first = whole_root.next;
    fits = above_spelled whole_root.next cut_root low room below fits;
    bytes_are = refl;
    middle = root_pieces whole_root.next cut_root;
    behind = [];
    pieces_are = sym (append-nil (root_pieces whole_root.next cut_root));
    puts_are = refl;
    fit = root_pieces_fit whole_root.next cut_root room fits;
    left = λ is_spent. let some : 1 ≤ count = omega arith in omega (arith, counted, some);
    spent = last;
    succeeds = (
      λ put. versions put ∙ ap (λ (n : ℕ). n + 1) rest.version,
      nexts ∙ ap (λ (n : ℕ). n + count) rest.next ∙ ap (λ (n : ℕ). root.next + n) (sym counted),
    );
    reserves = (refl, record { first_is = rest.next; bytes_are = reserved.bytes_are; fits = reserved.fits });
  }
    where
      counted : length (root_pieces whole_root.next cut_root) ≡ count
      counted = parts_count entry_key (whole_root.next + 1) (part_of_node (node_of_root cut_root)) ∙ ap (λ (es : List Named). count_of (length es)) entries

      reserved : IsReservation root (length (root_pieces whole_root.next cut_root)) first bytes
      reserved = subst (λ (n : ℕ). IsReservation root n first bytes) (sym counted) is

      low : 1 ≤ whole_root.next
      low = let n = (root_next root sound).0 in let e = rest.next in omega (arith, n, e)

      room : whole_root.next + count_of (length cut_root.entries) ≤ cut_root.next
      room = let many = ap (λ (es : List Named). count_of (length es)) entries in omega (arith, nexts, many)

      below : cut_root.level < 255
      below = subst (λ (l : ℕ). l < 255) (sym (levels ∙ rest.level)) higher

  -- where the numbers are there it is cut so
  at_leads : (bytes : List ℕ) (first : ℕ) → IsReservation root count first bytes → root.level < 255 → (spent : Bool) (t : Tree) → t.next ≡ whole_root.next
      → (t.next + count ≤ greatest → CutRoot spent (record t { next = t.next + count })) → (spent ≡ true → root.version + 1 ≡ greatest) → Leads (cut_at (Some bytes) count spent t)
  at_leads bytes first is higher spent t same cuts last = on (nat_lt 18446744073709551615 (t.next + count)) refl
    where
      cut_root : Tree
      cut_root = record t { next = t.next + count }

      on : (b : Bool) → nat_lt 18446744073709551615 (t.next + count) ≡ b → Leads (cond b (Err pages_spent) (Ok (lowered (Some bytes) spent (record t { next = t.next + count }) t.next)))
      on true e = tt
      on false e =
          subst (λ (n : ℕ). Leads (Ok (lowered (Some bytes) spent (record t { next = t.next + count }) n))) (sym same)
          (known (lowered (Some bytes) spent (record t { next = t.next + count }) whole_root.next)
          (cut (cut_known bytes first is higher spent (record t { next = t.next + count }) (cuts (ltb-false 18446744073709551615 (t.next + count) e)) last)))

  cut_leads : (bytes : List ℕ) (first : ℕ) → IsReservation root count first bytes → root.level < 255 → HasTreeSpelling whole_root
      → Leads (cut_by (Some bytes) count whole_root (next_tree whole_root))
  cut_leads bytes first is higher fits = on (whole_root.version == 18446744073709551615) refl
    where
      on : (b : Bool) → (whole_root.version == 18446744073709551615) ≡ b
          → Leads (cut_by (Some bytes) count whole_root (cond b (Err version_spent) (Ok (record whole_root { version = whole_root.version + 1 }))))
      on true e =
          at_leads bytes first is higher true whole_root refl
          (λ room. (refl, refl, refl, refl, (λ put. absurd (cc (put))), numbered_fits count whole_root fits room)) (λ last. sym rest.version ∙ eqb-true whole_root.version 18446744073709551615 e)
      on false e =
          at_leads bytes first is higher false (record whole_root { version = whole_root.version + 1 }) refl
          (λ room. (refl, refl, refl, refl, (λ put. refl), reserving_fits count whole_root (inr fits) (eqb-false whole_root.version 18446744073709551615 e) room)) (λ last. absurd (cc (last)))

  reserved_leads : root.level < 255 → HasTreeSpelling whole_root → (q : Reserved) → Reserving root 1 count q → Leads (cut_behind whole_root (Ok q))
  reserved_leads higher fits q (none e) = let some : 1 ≤ count = omega arith in absurd (omega (arith, some, e))
  reserved_leads higher fits q (some any bytes first is room) = cut_leads bytes first is higher fits

  -- ---- either

  plan_leads : HasTreeSpelling whole_root → Leads (root_plan root whole_root)
  plan_leads fits = on (nat_lt 64 (length whole_root.entries) && nat_lt root.level 255) refl
    where
      reserving_leads : root.level < 255 → (o : Result Reserved Trouble) → reservation root 1 count ≡ o → Leads (cut_behind whole_root o)
      reserving_leads higher (Err t) e = tt
      reserving_leads higher (Ok q) e = reserved_leads higher fits q (reservation_is root 1 count k.root.spelled q e)

      on : (b : Bool) → (nat_lt 64 (length whole_root.entries) && nat_lt root.level 255) ≡ b → Leads (cond b (root_cut root whole_root) (Ok (uncut whole_root)))
      on true e =
          reserving_leads (ltb-true root.level 255 (and_parts (nat_lt 64 (length whole_root.entries)) (nat_lt root.level 255) e).1) (reservation root 1 count) refl
      on false e = uncut_leads fits

  pub root_leads : RisesOn st now lease ids (finish r)
  root_leads = on (root.version == 18446744073709551615) refl
    where
      on : (b : Bool) → (root.version == 18446744073709551615) ≡ b
          → Leads (plan_of root (risen_by root.level r.chart.links top (cond b (Err version_spent) (Ok (record root { version = root.version + 1 })))))
      on true e = tt
      on false e = plan_leads (spelled (eqb-false root.version 18446744073709551615 e))
