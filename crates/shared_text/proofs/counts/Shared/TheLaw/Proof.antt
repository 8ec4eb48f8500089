-- What a `&Shared` holds comes of a borrow of the owner, can be copied, and serves for a shorter lifetime.
use denote.Param.Laws.{Laws}
use denote.Param.Shared.{copy_shared}
use denote.RattleType.{RattleType}
use denote.RawPtr.{Ptr, ◌+ₚ◌}
use denote.Sharing.{ShrLaws}
use denote.Struct.Field.{RawPtr-field}
use denote.Struct.Laws.{RawPtr-copy}
use denote.Struct.Lending.{lent_at_shr_laws, of_Lends}
use Rattle.std.specs.declared.alloc.Allocator.{Ghosts}
use Rattle.shared_text.specs.Ownership.{key_of, count_at, value_begins, content, value_seen}
use Rattle.shared_text.specs.contracts.counts.Shared as Shared
use Rattle.shared_text.proofs.Lending.{lent_laws, owner_lends}
use Rattle.shared_text.proofs.counts.Shared.TheLaw.Statement.{statement}

pub shares : (T A : RattleType) (g : Ghosts A.Denot) (L : Laws T) (K : Laws A) → statement T A g L K
shares T A g L K =
    let seen = λ (c : Ptr) (x : T.Denot). value_seen A T g.dealloc_token c x in
    let seen_laws : (c : Ptr) (x : T.Denot) → ShrLaws (seen c x) = λ c x. lent_at_shr_laws T L.shr_laws (c +ₚ value_begins A T) x in
    of_Lends (Shared.struct T A g) (Shared.the_codes T.Denot A.Denot T.coded A.coded) (Shared.the_heap T A g) (Shared.the_lent T A g)
    (λ s p. lent_laws (key_of s.ptr) (count_at s.ptr) (content A T g.dealloc_token s.ptr s.value) (seen s.ptr s.value) (seen_laws s.ptr s.value))
    (copy_shared RawPtr-field RawPtr-copy, tt)
    (λ M 𝓤 𝓛 s p. owner_lends (key_of s.ptr) (count_at s.ptr) (content A T g.dealloc_token s.ptr s.value) (seen s.ptr s.value) (seen_laws s.ptr s.value) 𝓛 (Shared.the_row T A g).lives)
