use Rattle.std.proofs.Common.{◌≡◌, ◌+◌, ◌-◌, ℕ, List, length, take, drop, arith, ap, inl, subst}
use Rattle.std.proofs.lemmas.List.{length-drop, take_rest}
use Rattle.rip_capture.specs.Carries.{LiesWithin}
use Rattle.rip_capture.specs.Packets.{IpCarries}
use Rattle.rip_capture.proofs.packet.read_frame.Goals as goal

pub returns-in-Ip-clause-carries : goal.returns-in-Ip-clause-carries
returns-in-Ip-clause-carries c =
    let from = c.in-Ip.from in
    inl (from, c.in-Ip.ensures.holds, subst (λ (l : List ℕ). IpCarries from l c.read_packet.result) (take_rest c.args.frame.now from) c.read_packet.ensures.carries)

pub returns-in-Ip-clause-lies : goal.returns-in-Ip-clause-lies
returns-in-Ip-clause-lies c =
    let from = c.in-Ip.from in
    let frame = c.args.frame.now in
    let size : from + length (take (length frame - from) (drop from frame)) ≡ length frame = omega (arith, ap length (take_rest frame from), length-drop from frame, c.in-Ip.ensures.within) in
    subst (λ (n : ℕ). LiesWithin n c.read_packet.result) size c.read_packet.ensures.lies
