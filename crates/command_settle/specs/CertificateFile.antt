-- A certificate's file: which bytes are the text of what, and with which status others are refused.
use Rattle.std.specs.Prelude.{ℕ, List}
use Rattle.qp_model.specs.machine.Controller.{Numbers}
use Rattle.settle_check.specs.Still.{box_of}
use Rattle.settle_check.specs.CertificateText.{CertificateNumbers, IsCertificateText, IsCertificateFault}
use Rattle.command_line.specs.Kind.{Kind}
use Rattle.command_loop.specs.DesignFiles.Reading.{text_kind}

-- ---- certificates for a controller
abbrev pub CertificateRight : Numbers → CertificateNumbers → List ℕ → Type 0
CertificateRight c f bytes = IsCertificateText bytes c.states (box_of c.low c.high) f

abbrev pub certificate_kind : Numbers → Kind
certificate_kind c = text_kind (CertificateRight c) (λ bytes fault. IsCertificateFault bytes c.states (box_of c.low c.high) fault)
